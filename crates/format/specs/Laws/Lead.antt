-- The first tests of a message: its lead and its seal are one test before the fields. Assumes nothing.
use Rattle.std.specs.Prelude.{◌≡◌, refl, Bool, true, false, cond, List, [], ℕ, zero, suc, ◌-◌, ◌≤◌, eqb, length, take, get_or}
use Rattle.std.proofs.Common.{◌∙◌, arith, le-leb}
use Rattle.bits.specs.Xor.{xor_of}
use Rattle.bits.specs.Bits.{bits_of}
use Rattle.format.specs.Fmt.{Out, Fmt, refused, or_bad, check, read}
use Rattle.format.specs.Laws.Legal.{ranged}
use Rattle.format.specs.Message.{Layout, fault, between, size, fields_of, body, seal_fault, first_of, first, told, read_message}

-- Where the first tests refused, that is the answer.
pub held_back : {A : Type 0} (c : ℕ) (o : Out A) → (c ≡ 0 → ⊥) → check (fault c) 0 o ≡ refused c 0
held_back zero o n = absurd (n refl)
held_back (suc c) o n = refl

-- A message that was read passed its first tests.
pub read_led : (l : Layout) (s : List ℕ) → (told (read_message l s)).code ≡ 0 → l.lead s ≡ 0
unfolding read_message
read_led l s = go (l.lead s)
  where
    o : Out (List ℕ)
    o = check (seal_fault l.seal s) 0 (read l.fmt [] 0 (bits_of (body l.seal s)))

    go : (c : ℕ) → (told (check (fault c) 0 o)).code ≡ 0 → c ≡ 0
    go zero e = refl
    go (suc c) e = e

-- the lead and the seal are one test
pub first_tests_lem : {A : Type 0} (l : Layout) (s : List ℕ) (o : Out A) → check (fault (l.lead s)) 0 (check (seal_fault l.seal s) 0 o) ≡ check (fault (first l s)) 0 o
first_tests_lem l s o = go (l.lead s) l.seal
  where
    stamped : (t : Bool) → check (or_bad t 3) 0 o ≡ check (fault (first_of (or_bad t 3) 0)) 0 o
    stamped true = refl
    stamped false = refl

    go : (c : ℕ) (z : Bool) → check (fault c) 0 (check (seal_fault z s) 0 o) ≡ check (fault (first_of (seal_fault z s) c)) 0 o
    go c false = refl
    go (suc c) true = late (eqb (get_or s (length s - 1) 0) (xor_of (take (length s - 1) s)))
      where
        late : (t : Bool) → check (fault (suc c)) 0 (check (or_bad t 3) 0 o) ≡ check (fault (first_of (or_bad t 3) (suc c))) 0 o
        late true = refl
        late false = refl
    go zero true = stamped (eqb (get_or s (length s - 1) 0) (xor_of (take (length s - 1) s)))

-- The message is read by its first tests, then its fields.
pub read_first : (l : Layout) (s : List ℕ) {c : ℕ} → c ≡ first l s → read_message l s ≡ check (fault c) 0 (read l.fmt [] 0 (bits_of (body l.seal s)))
unfolding read_message
read_first l s e = first_tests_lem l s (read l.fmt [] 0 (bits_of (body l.seal s))) ∙ rw (← e) refl

-- ---- sizes

-- A size that writing may make lies between the least and the greatest.
pub sized_by : (l : Layout) (n : ℕ) → size l n ≡ 0 → (l.least ≤ n) × (n ≤ l.most)
sized_by l n = go (between l.least l.most n) refl
  where
    go : (b : Bool) → between l.least l.most n ≡ b → ◌≡◌ {A = ℕ} (cond b 0 1) 0 → (l.least ≤ n) × (n ≤ l.most)
    go true e z = ranged l.least l.most n e
    go false e z = absurd (omega (arith, z))

-- ---- fields that may be of another size

module _ (f : Fmt) (lo hi : ℕ) (s : List ℕ) where
  -- What has a good size is read.
  pub sized_fields : lo ≤ length s → length s ≤ hi → fields_of f lo hi s ≡ read f [] 0 (bits_of s)
  sized_fields a b = rw (le-leb lo (length s) a, le-leb (length s) hi b) refl

  -- Another size is refused, whatever the fields are.
  pub other_size : (lo ≤ length s → length s ≤ hi → ⊥) → fields_of f lo hi s ≡ refused 1 0
  other_size n = go (between lo hi (length s)) refl
    where
      go : (x : Bool) → between lo hi (length s) ≡ x → check (or_bad x 1) 0 (read f [] 0 (bits_of s)) ≡ refused 1 0
      go true e = let (a, b) = ranged lo hi (length s) e in absurd (n a b)
      go false e = refl

-- The same for one size.
pub exact_fields : (f : Fmt) (n : ℕ) (s : List ℕ) → length s ≡ n → fields_of f n n s ≡ read f [] 0 (bits_of s)
exact_fields f n s e = sized_fields f n n s (omega (arith, e)) (omega (arith, e))
