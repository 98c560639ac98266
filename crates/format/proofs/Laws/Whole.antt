-- Demands 2 and 3 for whole messages, for every layout. Assumes nothing.
use Rattle.std.specs.Prelude.{◌≡◌, Bool, true, false, eqb, take, drop, get_or, set}
use Rattle.std.proofs.Math.Path.{refl, ap}
use Rattle.std.proofs.Common.{sym, ◌∙◌, arith, add_assoc, eqb→eq, length-append, drop_of_length-le, take_at, eq-eqb}
use mathlib.Core.List.{List, [], ◌∷◌, ◌++◌}
use Prim.Native.Nat.{ℕ, zero, suc, ◌+◌, ◌-◌, ◌*◌, ◌/◌, ◌%◌, ◌^◌, ◌≤◌, ◌<◌}
use Rattle.std.proofs.Math.ListN.{length}
use Rattle.std.proofs.lemmas.List.{get_or_at}
use Rattle.std.proofs.Math.Seq.{split_at}
use Rattle.bits.specs.Bits.{Bytes, digits, bits_of, bytes_of, splice, put_at}
use Rattle.bits.specs.Xor.{xor_of}
use Rattle.bits.specs.Laws.Bytes.{length_bits, length_bytes, bytes_bits, bits_bytes, bytes_below, bytes_take}
use Rattle.bits.specs.Laws.Digits.{length_digits}
use Rattle.bits.specs.Laws.Fields.{bits_put}
use Rattle.format.specs.Fmt.{Out, accepted, refused, good, check, Fmt, end, field, choice, bytes, also, after, write_field, read, write, found, spot}
use Rattle.format.specs.Message.{Layout, fault, size, body, sealed, seal_fault, closed, read_message, write_message, correct_message, Sound}
use Rattle.format.proofs.Laws.Correct.{laid_set, changed_narrow, changed_wide, spot_within}
use Rattle.format.specs.Laws.Lead.{sized_by}
use Rattle.format.specs.Laws.Round.{unjudged, lay, clash, accepted_inj, checked, passed, written, sized_inv}
use Rattle.format.proofs.Laws.Round.{write_lay, read_lay, write_read, read_write}
use Rattle.format.specs.Laws.Whole.{after_inv, body_sealed, length_sealed}

whole_field : (w at v : ℕ) (o : Out (List Bool)) (b : List Bool) → write_field w unjudged [] at v o ≡ accepted b
    → ((r : List Bool) → o ≡ accepted r → (at + w + length r) % 8 ≡ 0) → (at + length b) % 8 ≡ 0
whole_field w at v o b e k =
    let y = written w unjudged [] at v o b e in
    let n : length b ≡ w + length y.rest = ap length (sym y.whole) ∙ length-append (digits w v) y.rest ∙ ap (◌+ length y.rest) (length_digits w v) in
    rw (n, ← add_assoc) (k y.rest y.after)

-- Every layout fills whole bytes.
pub whole : (f : Fmt) (at : ℕ) (vs : List ℕ) (b : List Bool) → lay f at vs ≡ accepted b → (at + length b) % 8 ≡ 0
unfolding lay
whole end at [] b e = rw (← accepted_inj e, length_digits) (omega arith)
whole end at (v ∷ vs) b e = clash e
whole (field w j m f) at [] b e = clash e
whole (field w j m f) at (v ∷ vs) b e = whole_field w at v _ b e (whole f (at + w) vs)
whole (choice w j f) at [] b e = clash e
whole (choice w j f) at (v ∷ vs) b e = whole_field w at v _ b e (whole (f v) (at + w) vs)
whole (bytes f) at [] b e = clash e
whole (bytes f) at (n ∷ vs) b e = whole (f n) at vs b (sized_inv n at _ e).0

-- a first test that lets an answer pass was 0
led_by : {A : Type 0} (c : ℕ) (o : Out A) {a : A} → check (fault c) 0 o ≡ accepted a → (c ≡ 0) × (o ≡ accepted a)
led_by zero o e = (refl, e)
led_by (suc c) o e = clash e

-- ---- seals

seal_fits : (z : Bool) (t : List ℕ) → seal_fault z (sealed z t) ≡ good
seal_fits false t = refl
seal_fits true t =
    let n : length (sealed true t) - 1 ≡ length t = omega (arith, length-append t (xor_of t ∷ [])) in
    rw (n, take_at t (xor_of t ∷ []) (length t) refl, get_or_at t (xor_of t) [] 0 (length t) refl, eq-eqb (xor_of t) (xor_of t) refl) refl

-- a message whose seal fits is its sealed body
sealed_body : (z : Bool) (s : List ℕ) → (z ≡ true → 0 < length s) → seal_fault z s ≡ good → sealed z (body z s) ≡ s
sealed_body false s h e = refl
sealed_body true s h e =
    let n = length s - 1 in
    let l : 0 < length s = h refl in
    let x : get_or s n 0 ≡ xor_of (take n s) = eqb→eq _ _ (passed (eqb (get_or s n 0) (xor_of (take n s))) 3 e) in
    let o : drop (suc n) s ≡ [] = drop_of_length-le s {i = suc n} (omega arith) in
    sym (split_at s n 0 (omega arith) ∙ ap (λ y. take n s ++ get_or s n 0 ∷ y) o ∙ ap (λ y. take n s ++ y ∷ []) x)

bytes_body : (z : Bool) (s : List ℕ) → Bytes s → Bytes (body z s)
bytes_body false s h = h
bytes_body true s h = bytes_take (length s - 1) s h

-- ---- whole messages

module _ (l : Layout) where
  -- a message that is read: each test passed
  pub record Was (s vs : List ℕ) : Type 0 where
    pub led : l.lead s ≡ 0
    pub stamped : seal_fault l.seal s ≡ good
    pub walked : read l.fmt [] 0 (bits_of (body l.seal s)) ≡ accepted vs

  pub was : (s vs : List ℕ) → read_message l s ≡ accepted vs → Was s vs
  unfolding read_message
  was s vs e =
      let (a, x) = led_by (l.lead s) _ e in
      let (b, y) = checked (seal_fault l.seal s) 0 _ x in
      record { led = a; stamped = b; walked = y }

  -- a message that is written: its body's bits, and its size
  pub record Made (s vs : List ℕ) : Type 0 where
    pub kindly : l.kind vs ≡ 0
    pub inside : List ℕ
    pub fine : Bytes inside
    pub closes : sealed l.seal inside ≡ s
    pub wrote : write l.fmt [] 0 vs ≡ accepted (bits_of inside)
    pub fits : size l (length s) ≡ 0

  pub made : (s vs : List ℕ) → write_message l vs ≡ accepted s → Made s vs
  unfolding write_message
  made s vs e =
      let (a, x) = led_by (l.kind vs) _ e in
      let (b, d, k) = after_inv (write l.fmt [] 0 vs) (closed l) x in
      let n = length b / 8 in
      let t = sealed l.seal (bytes_of n b) in
      let (c, y) = led_by (size l (length t)) (accepted t) k in
      let m : length b ≡ n * 8 = omega (arith, whole l.fmt 0 vs b (write_lay l.fmt [] 0 vs b d)) in
      record {
        kindly = a;
        inside = bytes_of n b;
        fine = bytes_below n b;
        closes = accepted_inj y;
        wrote = d ∙ ap accepted (sym (bits_bytes n b m));
        fits = ap (λ s. size l (length s)) (sym (accepted_inj y)) ∙ c;
      }

module _ (l : Layout) (ok : Sound l) where
  -- 2. What is written is read back.
  pub write_read_message : (s vs : List ℕ) → write_message l vs ≡ accepted s → read_message l s ≡ accepted vs
  unfolding read_message
  write_read_message s vs e =
      let m = made l s vs e in
      let r = write_read l.fmt [] 0 vs (bits_of m.inside) m.wrote in
      let b : body l.seal s ≡ m.inside = ap (body l.seal) (sym m.closes) ∙ body_sealed l.seal m.inside in
      let w : read l.fmt [] 0 (bits_of (body l.seal s)) ≡ accepted vs = ap (λ t. read l.fmt [] 0 (bits_of t)) b ∙ r in
      let g : seal_fault l.seal s ≡ good = ap (seal_fault l.seal) (sym m.closes) ∙ seal_fits l.seal m.inside in
      rw (ok.sized s vs w, m.fits, g, w) refl

  -- a message that is read has a size that writing may make
  fitting : (s vs : List ℕ) → Was l s vs → size l (length s) ≡ 0
  fitting s vs r = sym (ok.sized s vs r.walked) ∙ r.led

  pub within_sizes : (s vs : List ℕ) → Was l s vs → (l.least ≤ length s) × (length s ≤ l.most)
  within_sizes s vs r = sized_by l (length s) (fitting s vs r)

  pub filled : (s vs : List ℕ) → Was l s vs → l.seal ≡ true → 0 < length s
  filled s vs r z = omega (arith, (within_sizes s vs r).0, ok.some z)

  pub whole_again : (s vs : List ℕ) → Was l s vs → sealed l.seal (body l.seal s) ≡ s
  whole_again s vs r = sealed_body l.seal s (filled s vs r) r.stamped

  -- 2. What is read is written back.
  pub read_write_message : (s vs : List ℕ) → Bytes s → read_message l s ≡ accepted vs → write_message l vs ≡ accepted s
  unfolding write_message
  read_write_message s vs h e =
      let r = was l s vs e in
      let t = body l.seal s in
      let n : length (bits_of t) / 8 ≡ length t = omega (arith, length_bits t) in
      rw (ok.kinds (bits_of t) vs r.walked, read_write l.fmt [] 0 vs (bits_of t) r.walked, n, bytes_bits t (bytes_body l.seal s h), whole_again s vs r, fitting s vs r) refl

  module _ (s vs : List ℕ) (i v p w : ℕ) (e : read_message l s ≡ accepted vs) (x : spot l.fmt [] vs i ≡ found p w) where
    pub spot_fits : p + w ≤ length (body l.seal s) * 8
    spot_fits =
        let t = body l.seal s in
        let k = spot_within l.fmt [] 0 vs (bits_of t) i p w (read_lay l.fmt [] 0 vs (bits_of t) (was l s vs e).walked) x in
        omega (arith, k, length_bits t)

    kind_stays : l.kind (set vs i v) ≡ 0
    kind_stays = ok.stays vs i v p w x ∙ ok.kinds (bits_of (body l.seal s)) vs (was l s vs e).walked

    -- 3. How to correct: change the field's bits, and answer as the fields are then read.
    pub correct_narrow : v < 2 ^ w → let t = put_at (body l.seal s) p w v in
        correct_message l s i v ≡ also (λ us. sealed l.seal t) (read l.fmt [] 0 (bits_of t))
    unfolding correct_message write_message put_at
    correct_narrow n =
        let r = was l s vs e in
        let t = body l.seal s in
        let b = splice p w v (bits_of t) in
        let m : length b / 8 ≡ length t = omega (arith, (laid_set l.fmt (bits_of t) vs i v p w r.walked x n).long, length_bits t) in
        let z : length (sealed l.seal (bytes_of (length t) b)) ≡ length s = length_sealed l.seal (bytes_of (length t) b) t (length_bytes (length t) b) ∙ ap length (whole_again s vs r) in
        let g : size l (length (sealed l.seal (bytes_of (length t) b))) ≡ 0 = ap (size l) z ∙ fitting s vs r in
        rw (e, x, kind_stays, changed_narrow l.fmt (bits_of t) vs i v p w r.walked x n, bits_put t p w spot_fits v) (go (read l.fmt [] 0 b) m g)
      where
        inner : List ℕ
        inner = body l.seal s

        go : (o : Out (List ℕ)) → length (splice p w v (bits_of inner)) / 8 ≡ length inner → size l (length (sealed l.seal (bytes_of (length inner) (splice p w v (bits_of inner))))) ≡ 0
            → after (also (λ us. splice p w v (bits_of inner)) o) (closed l) ≡ also (λ us. sealed l.seal (bytes_of (length inner) (splice p w v (bits_of inner)))) o
        go (accepted us) m g = rw (m, g) refl
        go (refused c q) m g = refl

    pub correct_wide : 2 ^ w ≤ v → correct_message l s i v ≡ refused 4 p
    unfolding correct_message write_message
    correct_wide n = rw (e, x, kind_stays, changed_wide l.fmt (bits_of (body l.seal s)) vs i v p w (was l s vs e).walked x n) refl
