-- Correcting one field changes the bits of that field alone, for every layout. Assumes nothing.
use Rattle.std.specs.Prelude.{◌≡◌, refl, Bool, true, false, List, [], ◌∷◌, ◌++◌, ℕ, zero, suc, ◌+◌, ◌^◌, ◌≤◌, ◌<◌, length, set}
use Rattle.std.proofs.Common.{sym, ap, ◌∙◌, append_assoc, arith, add_assoc, zero-add, lt-ltb, le-ltb, length-append, drop_at}
use Rattle.std.proofs.Math.Seq.{take-append-add, drop-append-add}
use Rattle.bits.specs.Bits.{digits, splice}
use Rattle.format.specs.Fmt.{Out, accepted, refused, Judge, Fmt, end, field, choice, bytes, also, write_field, read, sized, write, Spot, found, later, where?, spot}
use Rattle.format.specs.Laws.Round.{unjudged, lay, written, write_unjudged, sized_inv, sized_at}
use Rattle.format.proofs.Laws.Round.{agree, write_lay, read_lay, read_write}
use Rattle.bits.specs.Laws.Digits.{length_digits}
use Rattle.format.specs.Laws.Correct.{later_inv, none_clash, Spliced}

may : (t : Bool) (x : ℕ) {p w : ℕ} → where? t x ≡ found p w → found 0 x ≡ found p w
may true x e = e
may false x e = none_clash e

-- behind a first field of u bits, and in it
splice_later : (u p w v : ℕ) (d r : List Bool) → length d ≡ u → splice (u + p) w v (d ++ r) ≡ d ++ splice p w v r
splice_later u p w v d r l = rw (← l, take-append-add, add_assoc, drop-append-add) (simp append_assoc)

splice_here : (w v : ℕ) (d r : List Bool) → length d ≡ w → splice 0 w v (d ++ r) ≡ digits w v ++ r
splice_here w v d r l = rw (zero-add w, drop_at d r w l) refl

set_here : (w at u v p x : ℕ) (o : Out (List Bool)) (b : List Bool) → write_field w unjudged [] at u o ≡ accepted b → found 0 w ≡ found p x → v < 2 ^ x
    → Spliced (write_field w unjudged [] at v o) b p x v
set_here w at u v p x o b e s l =
    let y = written w unjudged [] at u o b e in
    let m : w ≡ x = cc in
    let k : digits x v ++ y.rest ≡ splice p x v b = cc (splice_here w v (digits w u) y.rest (length_digits w u), y.whole) in
    record {
      laid = rw m (write_unjudged x at v o _ l y.after k);
      long = cc (k, y.whole, length-append (digits x v) y.rest, length-append (digits w u) y.rest, length_digits x v, length_digits w u);
    }

set_later : (w at u v p x : ℕ) (o o' : Out (List Bool)) (t : Spot) (b : List Bool) → write_field w unjudged [] at u o ≡ accepted b → later w t ≡ found p x
    → ((r : List Bool) (q : ℕ) → o ≡ accepted r → t ≡ found q x → Spliced o' r q x v) → Spliced (write_field w unjudged [] at u o') b p x v
set_later w at u v p x o o' t b e s ih =
    let y = written w unjudged [] at u o b e in
    let (q, f, z) = later_inv w t s in
    let h = ih y.rest q y.after f in
    let k : digits w u ++ splice q x v y.rest ≡ splice p x v b = cc (splice_later w q x v (digits w u) y.rest (length_digits w u), y.whole, z) in
    record {
      laid = write_unjudged w at u o' _ y.narrow h.laid k;
      long = cc (k, y.whole, h.long, length-append (digits w u) (splice q x v y.rest), length-append (digits w u) y.rest);
    }

within_here : (w at u p x : ℕ) (o : Out (List Bool)) (b : List Bool) → write_field w unjudged [] at u o ≡ accepted b → found 0 w ≡ found p x → p + x ≤ length b
within_here w at u p x o b e s =
    let y = written w unjudged [] at u o b e in
    let m : w ≡ x = cc in
    let z : 0 ≡ p = cc in
    omega (arith, ap length y.whole, length-append (digits w u) y.rest, length_digits w u)

within_later : (w at u p x : ℕ) (o : Out (List Bool)) (t : Spot) (b : List Bool) → write_field w unjudged [] at u o ≡ accepted b → later w t ≡ found p x
    → ((r : List Bool) (q : ℕ) → o ≡ accepted r → t ≡ found q x → q + x ≤ length r) → p + x ≤ length b
within_later w at u p x o t b e s ih =
    let y = written w unjudged [] at u o b e in
    let (q, f, z) = later_inv w t s in
    omega (arith, ih y.rest q y.after f, z, ap length y.whole, length-append (digits w u) y.rest, length_digits w u)

-- The changed values are laid out as the bits with that field changed.
pub lay_set : (f : Fmt) (h : List ℕ) (at : ℕ) (vs : List ℕ) (b : List Bool) (i v p w : ℕ)
    → lay f at vs ≡ accepted b → spot f h vs i ≡ found p w → v < 2 ^ w → Spliced (lay f at (set vs i v)) b p w v
unfolding lay spot
lay_set f h at [] b i v p w e s l = none_clash s
lay_set end h at (u ∷ us) b i v p w e s l = none_clash s
lay_set (field x j m f) h at (u ∷ us) b zero v p w e s l = set_here x at u v p w _ b e (may (m h) x s) l
lay_set (field x j m f) h at (u ∷ us) b (suc i) v p w e s l = set_later x at u v p w _ _ _ b e s (λ r q d t. lay_set f (u ∷ h) (at + x) us r i v q w d t l)
lay_set (choice x j f) h at (u ∷ us) b zero v p w e s l = none_clash s
lay_set (choice x j f) h at (u ∷ us) b (suc i) v p w e s l = set_later x at u v p w _ _ _ b e s (λ r q d t. lay_set (f u) (u ∷ h) (at + x) us r i v q w d t l)
lay_set (bytes f) h at (u ∷ us) b zero v p w e s l = none_clash s
lay_set (bytes f) h at (u ∷ us) b (suc i) v p w e s l =
    let y = sized_inv u at (lay (f u) at us) e in
    let h = lay_set (f u) (u ∷ h) at us b i v p w y.0 s l in
    record { laid = rw h.laid (sized_at u at _ (rw h.long y.1)); long = h.long }

-- A field's offset lies within the bits.
pub spot_within : (f : Fmt) (h : List ℕ) (at : ℕ) (vs : List ℕ) (b : List Bool) (i p w : ℕ)
    → lay f at vs ≡ accepted b → spot f h vs i ≡ found p w → p + w ≤ length b
unfolding lay spot
spot_within f h at [] b i p w e s = none_clash s
spot_within end h at (u ∷ us) b i p w e s = none_clash s
spot_within (field x j m f) h at (u ∷ us) b zero p w e s = within_here x at u p w _ b e (may (m h) x s)
spot_within (field x j m f) h at (u ∷ us) b (suc i) p w e s = within_later x at u p w _ _ b e s (λ r q d t. spot_within f (u ∷ h) (at + x) us r i q w d t)
spot_within (choice x j f) h at (u ∷ us) b zero p w e s = none_clash s
spot_within (choice x j f) h at (u ∷ us) b (suc i) p w e s = within_later x at u p w _ _ b e s (λ r q d t. spot_within (f u) (u ∷ h) (at + x) us r i q w d t)
spot_within (bytes f) h at (u ∷ us) b zero p w e s = none_clash s
spot_within (bytes f) h at (u ∷ us) b (suc i) p w e s = spot_within (f u) (u ∷ h) at us b i p w (sized_inv u at (lay (f u) at us) e).0 s

-- A value too wide for its field is refused there.
wide_here : (w : ℕ) (j : Judge) (h : List ℕ) (at v p x : ℕ) (o : Out (List Bool)) → found 0 w ≡ found p x → 2 ^ x ≤ v → write_field w j h at v o ≡ refused 4 (at + p)
unfolding write_field
wide_here w j h at v p x o s l =
    let m : x ≡ w = cc in
    let z : 0 ≡ p = cc in
    rw (le-ltb v (2 ^ w) (rw m at l), ← z) refl

wide_later : (w : ℕ) (j : Judge) (h : List ℕ) (at u p x : ℕ) (o o' : Out (List Bool)) (t : Spot) (b : List Bool) → write_field w j h at u o ≡ accepted b → later w t ≡ found p x
    → ((r : List Bool) (q : ℕ) → o ≡ accepted r → t ≡ found q x → o' ≡ refused 4 (at + w + q)) → write_field w j h at u o' ≡ refused 4 (at + p)
unfolding write_field
wide_later w j h at u p x o o' t b e s ih =
    let y = written w j h at u o b e in
    let (q, f, z) = later_inv w t s in
    rw (lt-ltb u (2 ^ w) y.narrow, y.fine, ih y.rest q y.after f, add_assoc, z) refl

pub set_wide : (f : Fmt) (h : List ℕ) (at : ℕ) (vs : List ℕ) (b : List Bool) (i v p w : ℕ)
    → write f h at vs ≡ accepted b → spot f h vs i ≡ found p w → 2 ^ w ≤ v → write f h at (set vs i v) ≡ refused 4 (at + p)
unfolding write spot sized
set_wide f h at [] b i v p w e s l = none_clash s
set_wide end h at (u ∷ us) b i v p w e s l = none_clash s
set_wide (field x j m f) h at (u ∷ us) b zero v p w e s l = wide_here x j h at v p w _ (may (m h) x s) l
set_wide (field x j m f) h at (u ∷ us) b (suc i) v p w e s l = wide_later x j h at u p w _ _ _ b e s (λ r q d t. set_wide f (u ∷ h) (at + x) us r i v q w d t l)
set_wide (choice x j f) h at (u ∷ us) b zero v p w e s l = none_clash s
set_wide (choice x j f) h at (u ∷ us) b (suc i) v p w e s l = wide_later x j h at u p w _ _ _ b e s (λ r q d t. set_wide (f u) (u ∷ h) (at + x) us r i v q w d t l)
set_wide (bytes f) h at (u ∷ us) b zero v p w e s l = none_clash s
set_wide (bytes f) h at (u ∷ us) b (suc i) v p w e s l = rw (set_wide (f u) (u ∷ h) at us b i v p w (sized_inv u at _ e).0 s l) refl

-- C. In bits that are read, with a field that may be corrected: writing the changed values answers as reading the changed bits,
-- and a value too wide is refused at the field.
module _ (f : Fmt) (b : List Bool) (vs : List ℕ) (i v p w : ℕ) (e : read f [] 0 b ≡ accepted vs) (s : spot f [] vs i ≡ found p w) where
  pub laid_set : v < 2 ^ w → Spliced (lay f 0 (set vs i v)) b p w v
  laid_set l = lay_set f [] 0 vs b i v p w (read_lay f [] 0 vs b e) s l

  pub changed_narrow : v < 2 ^ w → write f [] 0 (set vs i v) ≡ also (λ us. splice p w v b) (read f [] 0 (splice p w v b))
  changed_narrow l = rw (agree f [] 0 (set vs i v) (splice p w v b) (laid_set l).laid) (go (write f [] 0 (set vs i v)) refl)
    where
      go : (o : Out (List Bool)) → write f [] 0 (set vs i v) ≡ o → o ≡ also (λ us. splice p w v b) (also (λ c. set vs i v) o)
      go (accepted c) x = sym (write_lay f [] 0 (set vs i v) c x) ∙ (laid_set l).laid
      go (refused c q) x = refl

  pub changed_wide : 2 ^ w ≤ v → write f [] 0 (set vs i v) ≡ refused 4 p
  changed_wide l = set_wide f [] 0 vs b i v p w (read_write f [] 0 vs b e) s l ∙ ap (refused 4) (zero-add p)
