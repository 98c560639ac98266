-- Reading and writing undo each other, for every layout. Assumes nothing.
use Rattle.std.specs.Prelude.{◌≡◌, refl, Bool, true, false, List, [], ◌∷◌, ◌++◌, ℕ, ◌+◌, ◌/◌, ◌^◌, ◌<◌, T, leb, ltb, eqb, length, take, drop}
use Rattle.std.proofs.Common.{ap, subst, arith, ltb→lt, eqb→eq, lt-ltb, le-leb, eq-eqb, length-append, take_at, drop_at}
use Rattle.bits.specs.Bits.{digits}
use Rattle.format.specs.Fmt.{Out, accepted, refused, Fault, good, bad, Judge, Fmt, end, field, choice, bytes, pad, or_bad, check, also, read_field, write_field, sized}
use Rattle.bits.specs.Laws.Digits.{length_digits, value_digits}

-- ---- laid out

-- The values laid out with no judging but of their widths: what writing gives where nothing is refused.
abbrev pub unjudged : Judge
unjudged h b = good

unfoldable pub lay : Fmt → ℕ → List ℕ → Out (List Bool)
lay end at [] = accepted (digits (pad at) 0)
lay end at (v ∷ vs) = refused 0 at
lay (field w j m f) at [] = refused 0 at
lay (field w j m f) at (v ∷ vs) = write_field w unjudged [] at v (lay f (at + w) vs)
lay (choice w j f) at [] = refused 0 at
lay (choice w j f) at (v ∷ vs) = write_field w unjudged [] at v (lay (f v) (at + w) vs)
lay (bytes f) at [] = refused 0 at
lay (bytes f) at (n ∷ vs) = sized n at (lay (f n) at vs)

-- ---- answers

-- a refusal is no acceptance
pub clash : {A : Type 0} {X : Type 0} {c p : ℕ} {a : A} → refused c p ≡ accepted a → X
clash e = let z : ◌≡◌ {A = ℕ} 0 1 = cc in absurd (omega arith)

pub accepted_inj : {A : Type 0} {a b : A} → accepted a ≡ accepted b → a ≡ b
accepted_inj e = cc

pub refused_inj : {A : Type 0} {c d p q : ℕ} → ◌≡◌ {A = Out A} (refused c p) (refused d q) → (c ≡ d) × (p ≡ q)
refused_inj e = (cc, cc)

-- an accepted answer had no fault
pub checked : {A : Type 0} {a : A} (x : Fault) (at : ℕ) (o : Out A) → check x at o ≡ accepted a → (x ≡ good) × (o ≡ accepted a)
checked good at o e = (refl, e)
checked (bad c i) at o e = clash e

pub passed : (t : Bool) (c : ℕ) → or_bad t c ≡ good → T t
passed true c e = tt
passed false c e = let z : ◌≡◌ {A = ℕ} 0 1 = cc in absurd (omega arith)

pub also_inv : {A B : Type 0} (f : A → B) (o : Out A) {y : B} → also f o ≡ accepted y → (x : A) × (o ≡ accepted x) × (f x ≡ y)
also_inv f (accepted a) e = (a, refl, cc)
also_inv f (refused c p) e = clash e

-- ---- one field

-- A written field's value is narrow and judged good, and its bits stand before the rest.
pub record Written (w : ℕ) (j : Judge) (h : List ℕ) (v : ℕ) (o : Out (List Bool)) (b : List Bool) : Type 0 where
  pub narrow : v < 2 ^ w
  pub fine : j h (digits w v) ≡ good
  pub rest : List Bool
  pub after : o ≡ accepted rest
  pub whole : digits w v ++ rest ≡ b

pub written : (w : ℕ) (j : Judge) (h : List ℕ) (at v : ℕ) (o : Out (List Bool)) (b : List Bool) → write_field w j h at v o ≡ accepted b → Written w j h v o b
unfolding write_field
written w j h at v o b e =
    let c = checked (or_bad (ltb v (2 ^ w)) 4) at _ e in
    let d = checked (j h (digits w v)) at _ c.1 in
    let a = also_inv (digits w v ++◌) o d.1 in
    record { narrow = ltb→lt v (2 ^ w) (passed (ltb v (2 ^ w)) 4 c.0); fine = d.0; rest = a.0; after = a.1; whole = a.2 }

-- Reading the bits that spell v, and more after them.
pub read_written : (w : ℕ) (j : Judge) (h : List ℕ) (at v : ℕ) (r : List Bool) (next : ℕ → List Bool → Out (List ℕ)) → v < 2 ^ w
    → read_field w j h at (digits w v ++ r) next ≡ check (j h (digits w v)) at (also (v ∷◌) (next v r))
unfolding read_field
read_written w j h at v r next l =
    let e : take w (digits w v ++ r) ≡ digits w v = take_at (digits w v) r w (length_digits w v) in
    let d : drop w (digits w v ++ r) ≡ r = drop_at (digits w v) r w (length_digits w v) in
    let n : leb w (length (digits w v ++ r)) ≡ true =
    le-leb w _ (omega (arith, length-append (digits w v) r, length_digits w v)) in
    rw (e, d, n, value_digits w l) refl

-- a narrow value is written or refused as its judge says
pub judged : (w : ℕ) (j : Judge) (h : List ℕ) (at v : ℕ) (vs : List ℕ) (o : Out (List Bool)) → v < 2 ^ w
    → check (j h (digits w v)) at (also (v ∷◌) (also (λ b. vs) o)) ≡ also (λ b. v ∷ vs) (write_field w j h at v o)
unfolding write_field
judged w j h at v vs o l = rw (lt-ltb v (2 ^ w) l) (go (j h (digits w v)) o)
  where
    go : (x : Fault) (o : Out (List Bool)) → check x at (also (v ∷◌) (also (λ b. vs) o)) ≡ also (λ b. v ∷ vs) (check x at (also (digits w v ++◌) o))
    go good (accepted b) = refl
    go good (refused c p) = refl
    go (bad c i) o = refl

-- a narrow value before what is laid out
pub write_unjudged : (w at v : ℕ) (o : Out (List Bool)) (b : List Bool) {r : List Bool} → v < 2 ^ w → o ≡ accepted r → digits w v ++ r ≡ b
    → write_field w unjudged [] at v o ≡ accepted b
unfolding write_field
write_unjudged w at v o b l e d = rw (e, lt-ltb v (2 ^ w) l) (ap accepted d)

-- ---- byte counts

pub sized_inv : (n at : ℕ) (o : Out (List Bool)) {b : List Bool} → sized n at o ≡ accepted b → (o ≡ accepted b) × (length b / 8 ≡ n)
unfolding sized
sized_inv n at (accepted a) {b} e =
    let c = checked (or_bad (eqb (length a / 8) n) 0) at _ e in
    let m : length a / 8 ≡ n = eqb→eq _ _ (passed (eqb (length a / 8) n) 0 c.0) in
    (c.1, subst (λ o. length_of o / 8 ≡ n) c.1 m)
  where
    length_of : Out (List Bool) → ℕ
    length_of (accepted a) = length a
    length_of (refused c p) = 0
sized_inv n at (refused c p) e = clash e

pub sized_at : (n at : ℕ) (b : List Bool) → length b / 8 ≡ n → sized n at (accepted b) ≡ accepted b
unfolding sized
sized_at n at b e = rw (e, eq-eqb n n refl) refl

-- the step of W at a byte count
pub agree_bytes : (n at : ℕ) (vs : List ℕ) (b : List Bool) (o : Out (List Bool)) → length b / 8 ≡ n → ((r : List Bool) → o ≡ accepted r → b ≡ r)
    → also (n ∷◌) (also (λ b. vs) o) ≡ also (λ b. n ∷ vs) (sized n at o)
unfolding sized
agree_bytes n at vs b (accepted r) l k = rw (← k r refl, l, eq-eqb n n refl) refl
agree_bytes n at vs b (refused c p) l k = refl
