-- A message: whole bytes, its lead, a seal where it has one, and the fields of a layout. Assumes nothing.
use Rattle.std.specs.Prelude.{ℕ, zero, suc, ◌-◌, ◌/◌, ◌<◌, Bool, true, false, cond, ◌&&◌, List, [], ◌∷◌, ◌++◌, ◌≡◌, leb, eqb, length, take, drop, get_or, set}
use Rattle.std.proofs.Common.{sym, ap}
use Rattle.bits.specs.Bits.{bits_of, bytes_of}
use Rattle.bits.specs.Xor.{xor_of}
use Rattle.format.specs.Refusals.{shown, bare}
use Rattle.format.specs.Refusals.{Verdict}
use Rattle.format.specs.Fmt.{Out, accepted, refused, Fault, good, bad, or_bad, check, after, Fmt, read, write, found, spot, unless10}

pub record Layout : Type 0 where
  -- reading's first tests, of the bytes: 0, or the refusal's number
  pub lead : List ℕ → ℕ
  -- writing's first test, of the values' kind: 0, or the refusal's number
  pub kind : List ℕ → ℕ
  -- the sizes that writing may make, in bytes
  pub least : ℕ
  pub most : ℕ
  -- whether the last byte is the XOR of all before it
  pub seal : Bool
  pub fmt : Fmt

-- the fault of that number, 0 being none
abbrev pub fault : ℕ → Fault
fault zero = good
fault (suc c) = bad (suc c) 0

-- the smallest size (1), the kind (2), then that kind's sizes (1)
abbrev pub led : ℕ → (List ℕ → Bool) → (List ℕ → Bool) → List ℕ → ℕ
led smallest kind sizes s = cond (leb smallest (length s)) (cond (kind s) (cond (sizes s) 0 1) 2) 1

abbrev pub between : ℕ → ℕ → ℕ → Bool
between lo hi n = leb lo n && leb n hi

abbrev pub size : Layout → ℕ → ℕ
size l n = cond (between l.least l.most n) 0 1

-- ---- seals

-- what the layout lays out
abbrev pub body : Bool → List ℕ → List ℕ
body false s = s
body true s = take (length s - 1) s

abbrev pub sealed : Bool → List ℕ → List ℕ
sealed false t = t
sealed true t = t ++ xor_of t ∷ []

abbrev pub seal_fault : Bool → List ℕ → Fault
seal_fault false s = good
seal_fault true s = or_bad (eqb (get_or s (length s - 1) 0) (xor_of (take (length s - 1) s))) 3

-- the number of the first of both, 0 where neither is wrong
abbrev pub first_of : Fault → ℕ → ℕ
first_of good c = c
first_of (bad d i) zero = d
first_of (bad d i) (suc c) = suc c

-- what the tests before the fields answer: the lead, then the seal
abbrev pub first : Layout → List ℕ → ℕ
first l s = first_of (seal_fault l.seal s) (l.lead s)

-- ---- whole messages

-- The fields of lo to hi bytes. Another size is 1.
abbrev pub fields_of : Fmt → ℕ → ℕ → List ℕ → Out (List ℕ)
fields_of f lo hi s = check (or_bad (between lo hi (length s)) 1) 0 (read f [] 0 (bits_of s))

-- Reading: the lead, the seal, then the fields in bit order.
unfoldable pub read_message : Layout → List ℕ → Out (List ℕ)
read_message l s =
    check (fault (l.lead s)) 0 (check (seal_fault l.seal s) 0 (read l.fmt [] 0 (bits_of (body l.seal s))))

-- the bits as bytes with their seal, of a size that may be
abbrev pub closed : Layout → List Bool → Out (List ℕ)
closed l b = let t = sealed l.seal (bytes_of (length b / 8) b) in check (fault (size l (length t))) 0 (accepted t)

-- Writing: the kind, the fields in bit order, then the size that they make.
unfoldable pub write_message : Layout → List ℕ → Out (List ℕ)
write_message l vs = check (fault (l.kind vs)) 0 (after (write l.fmt [] 0 vs) (closed l))

-- Correcting field i to v: the message's own refusal, 10, then what writing the changed values answers.
unfoldable pub correct_message : Layout → List ℕ → ℕ → ℕ → Out (List ℕ)
correct_message l s i v = after (read_message l s) (λ vs. unless10 (spot l.fmt [] vs i) (write_message l (set vs i v)))

-- ---- what a call answers, and what it leaves in a lent buffer

-- no refusal, or what is told of it
abbrev pub told : {A : Type 0} → Out A → Verdict
told (accepted a) = bare 0
told (refused c p) = shown c p

abbrev pub leaves : {A : Type 0} → Out A → A → A
leaves (accepted t) s = t
leaves (refused c p) s = s

-- the call's refusal and the buffer that it leaves, from its answer
pub refuses : {A : Type 0} {s : A} {o : Out A} {c p : ℕ} → o ≡ refused c p → (shown c p ≡ told o) × (s ≡ leaves o s)
refuses {s} e = (ap told (sym e), ap (λ o. leaves o s) (sym e))

pub accepts : {A : Type 0} (s : A) {t : A} {o : Out A} → o ≡ accepted t → (bare 0 ≡ told o) × (t ≡ leaves o s)
accepts s e = (ap told (sym e), ap (λ o. leaves o s) (sym e))

-- t at the front of a lent buffer or row s; what stands past it stays
abbrev pub ahead : {A : Type 0} → List A → List A → List A
ahead t s = t ++ drop (length t) s

-- an answer at the front of one that has room (6, tested last)
abbrev pub into : {A : Type 0} → List A → Out (List A) → Out (List A)
into s o = after o (λ t. check (or_bad (leb (length t) (length s)) 6) 0 (accepted (ahead t s)))

-- ---- what a layout owes

-- What the fields accept leaves nothing to its first tests but its size, and a correction does not touch the kind.
pub record Sound (l : Layout) : Type 0 where
  pub sized : (s vs : List ℕ) → read l.fmt [] 0 (bits_of (body l.seal s)) ≡ accepted vs → l.lead s ≡ size l (length s)
  pub kinds : (b : List Bool) (vs : List ℕ) → read l.fmt [] 0 b ≡ accepted vs → l.kind vs ≡ 0
  pub stays : (vs : List ℕ) (i v p w : ℕ) → spot l.fmt [] vs i ≡ found p w → l.kind (set vs i v) ≡ l.kind vs
  pub some : l.seal ≡ true → 0 < l.least
