-- Reading and writing undo each other, for every layout. Assumes nothing.
use Rattle.std.specs.Prelude.{◌≡◌, refl, Bool, List, [], ◌∷◌, ◌++◌, ℕ, ◌+◌, ◌/◌, ◌^◌, ◌<◌, leb, eqb, length, take, drop}
use Rattle.std.proofs.Common.{sym, ap, ◌∙◌, subst, le_of_eq, pow_pos, leb→le, eqb→eq, eq-eqb, take-append-drop, length-take-le, take_all}
use Rattle.bits.specs.Bits.{value_of, digits}
use Rattle.format.specs.Fmt.{Out, accepted, Judge, Fmt, end, field, choice, bytes, pad, or_bad, also, read_field, write_field, read, write}
use Rattle.bits.specs.Laws.Digits.{length_digits, value_take_lt, value_digits, digits_value}
use Rattle.format.specs.Laws.Round.{unjudged, lay, clash, accepted_inj, checked, passed, also_inv, written, read_written, judged, write_unjudged, sized_inv, sized_at, agree_bytes}

-- ---- one field

-- the step of W: what follows agrees, and so do the field and what follows
pub agree_field : (w : ℕ) (j : Judge) (h : List ℕ) (at v : ℕ) (vs : List ℕ) (laid o : Out (List Bool)) (b : List Bool) (next : ℕ → List Bool → Out (List ℕ))
    → write_field w unjudged [] at v laid ≡ accepted b → ((r : List Bool) → laid ≡ accepted r → next v r ≡ also (λ b. vs) o)
    → read_field w j h at b next ≡ also (λ b. v ∷ vs) (write_field w j h at v o)
agree_field w j h at v vs laid o b next e ih =
    let x = written w unjudged [] at v laid b e in
    rw (← x.whole, read_written w j h at v x.rest next x.narrow, ih x.rest x.after) (judged w j h at v vs o x.narrow)

-- A field that was read fits, is judged good, and its value stands before the rest: laid out again, it gives the bits.
pub relaid : (w : ℕ) (j : Judge) (h : List ℕ) (at : ℕ) (b : List Bool) (next : ℕ → List Bool → Out (List ℕ)) (vs : List ℕ) (P : List ℕ → Type 0)
    → read_field w j h at b next ≡ accepted vs
    → ((v : ℕ) (rs : List ℕ) → next v (drop w b) ≡ accepted rs → ((o : Out (List Bool)) → o ≡ accepted (drop w b) → write_field w unjudged [] at v o ≡ accepted b) → P (v ∷ rs))
    → P vs
unfolding read_field
relaid w j h at b next vs P e k =
    let t = take w b in
    let c = checked (j h t) at _ e in
    let d = checked (or_bad (leb w (length b)) 1) at _ c.1 in
    let a = also_inv (value_of t ∷◌) (next (value_of t) (drop w b)) d.1 in
    let n : length t ≡ w = length-take-le w b (leb→le _ _ (passed (leb w (length b)) 1 d.0)) in
    let l : value_of t < 2 ^ w = value_take_lt w b in
    subst P a.2 (k (value_of t) a.0 a.1 (λ o x. write_unjudged w at (value_of t) o b l x (ap (◌++ drop w b) (digits_value w t n) ∙ take-append-drop w b)))

-- ---- byte counts

agree_end : (h : List ℕ) (at : ℕ) → read end h at (digits (pad at) 0) ≡ accepted []
unfolding read
agree_end h at =
    let w = pad at in
    let e : take w (digits w 0) ≡ digits w 0 = take_all w (digits w 0) (le_of_eq (length_digits w 0)) in
    rw (e, value_digits w (pow_pos w), length_digits w 0, eq-eqb w w refl) refl

-- ---- whole layouts

-- what is written is what is laid out
pub write_lay : (f : Fmt) (h : List ℕ) (at : ℕ) (vs : List ℕ) (b : List Bool) → write f h at vs ≡ accepted b → lay f at vs ≡ accepted b
unfolding write lay
write_lay end h at [] b e = e
write_lay end h at (v ∷ vs) b e = clash e
write_lay (field w j m f) h at [] b e = clash e
write_lay (field w j m f) h at (v ∷ vs) b e = let x = written w j h at v _ b e in write_unjudged w at v _ b x.narrow (write_lay f (v ∷ h) (at + w) vs _ x.after) x.whole
write_lay (choice w j f) h at [] b e = clash e
write_lay (choice w j f) h at (v ∷ vs) b e = let x = written w j h at v _ b e in write_unjudged w at v _ b x.narrow (write_lay (f v) (v ∷ h) (at + w) vs _ x.after) x.whole
write_lay (bytes f) h at [] b e = clash e
write_lay (bytes f) h at (n ∷ vs) b e =
    let x = sized_inv n at (write (f n) (n ∷ h) at vs) e in
    rw (write_lay (f n) (n ∷ h) at vs b x.0) (sized_at n at b x.1)

-- what is read is what is laid out
pub read_lay : (f : Fmt) (h : List ℕ) (at : ℕ) (vs : List ℕ) (b : List Bool) → read f h at b ≡ accepted vs → lay f at vs ≡ accepted b
unfolding read lay
read_lay end h at vs b e =
    let c = checked (or_bad (eqb (value_of (take (pad at) b)) 0) 5) at _ e in
    let d = checked (or_bad (eqb (length b) (pad at)) 1) (at + pad at) (accepted []) c.1 in
    let l = eqb→eq (length b) (pad at) (passed (eqb (length b) (pad at)) 1 d.0) in
    let z = eqb→eq (value_of (take (pad at) b)) 0 (passed (eqb (value_of (take (pad at) b)) 0) 5 c.0) in
    let g : digits (pad at) 0 ≡ b = rw (← z, take_all (pad at) b (le_of_eq l)) (digits_value (pad at) b l) in
    subst (λ vs. lay end at vs ≡ accepted b) (accepted_inj d.1) (ap accepted g)
read_lay (field w j m f) h at vs b e =
    relaid w j h at b _ vs (λ vs. lay (field w j m f) at vs ≡ accepted b) e (λ v rs x k. k (lay f (at + w) rs) (read_lay f (v ∷ h) (at + w) rs (drop w b) x))
read_lay (choice w j f) h at vs b e =
    relaid w j h at b _ vs (λ vs. lay (choice w j f) at vs ≡ accepted b) e (λ v rs x k. k (lay (f v) (at + w) rs) (read_lay (f v) (v ∷ h) (at + w) rs (drop w b) x))
read_lay (bytes f) h at vs b e =
    let n = length b / 8 in
    let a = also_inv (n ∷◌) (read (f n) (n ∷ h) at b) e in
    subst (λ vs. lay (bytes f) at vs ≡ accepted b) a.2 (rw (read_lay (f n) (n ∷ h) at a.0 b a.1) (sized_at n at b refl))

-- W. Where every value fits its width, reading what is laid out answers as writing does: the values, or the same refusal.
pub agree : (f : Fmt) (h : List ℕ) (at : ℕ) (vs : List ℕ) (b : List Bool) → lay f at vs ≡ accepted b
    → read f h at b ≡ also (λ b. vs) (write f h at vs)
unfolding read write lay
agree end h at [] b e = subst (λ b. read end h at b ≡ accepted []) (accepted_inj e) (agree_end h at)
agree end h at (v ∷ vs) b e = clash e
agree (field w j m f) h at [] b e = clash e
agree (field w j m f) h at (v ∷ vs) b e = agree_field w j h at v vs _ _ b _ e (agree f (v ∷ h) (at + w) vs)
agree (choice w j f) h at [] b e = clash e
agree (choice w j f) h at (v ∷ vs) b e = agree_field w j h at v vs _ _ b _ e (agree (f v) (v ∷ h) (at + w) vs)
agree (bytes f) h at [] b e = clash e
agree (bytes f) h at (n ∷ vs) b e =
    let x = sized_inv n at (lay (f n) at vs) e in
    rw (x.1, agree (f n) (n ∷ h) at vs b x.0) (agree_bytes n at vs b (write (f n) (n ∷ h) at vs) x.1 (λ r y. accepted_inj (sym x.0 ∙ write_lay (f n) (n ∷ h) at vs r y)))

-- R1. What is written is read back.
pub write_read : (f : Fmt) (h : List ℕ) (at : ℕ) (vs : List ℕ) (b : List Bool) → write f h at vs ≡ accepted b → read f h at b ≡ accepted vs
write_read f h at vs b e = rw e at (agree f h at vs b (write_lay f h at vs b e))

-- R2. What is read is written back.
pub read_write : (f : Fmt) (h : List ℕ) (at : ℕ) (vs : List ℕ) (b : List Bool) → read f h at b ≡ accepted vs → write f h at vs ≡ accepted b
read_write f h at vs b e =
    let l = read_lay f h at vs b e in
    let a = also_inv (λ b. vs) (write f h at vs) (sym (agree f h at vs b l) ∙ e) in
    a.1 ∙ sym (write_lay f h at vs a.0 a.1) ∙ l

-- U. One message has one list of values, and one list of values one message.
pub same_values : (f : Fmt) (h : List ℕ) (at : ℕ) (us vs : List ℕ) (b : List Bool) → write f h at us ≡ accepted b → write f h at vs ≡ accepted b → us ≡ vs
same_values f h at us vs b d e = accepted_inj (sym (write_read f h at us b d) ∙ write_read f h at vs b e)

pub same_bits : (f : Fmt) (h : List ℕ) (at : ℕ) (vs : List ℕ) (a b : List Bool) → read f h at a ≡ accepted vs → read f h at b ≡ accepted vs → a ≡ b
same_bits f h at vs a b d e = accepted_inj (sym (read_write f h at vs a d) ∙ read_write f h at vs b e)
