-- The distress sentence around a report (paper 01, "Distress report", second paragraph). Assumes nothing.
use Rattle.std.specs.Prelude.{ℕ, ◌-◌, ◌≡◌, Bool, true, false, cond, not, ◌&&◌, List, [], ◌∷◌, ◌++◌, leb, eqb, length, take, drop, get_or, Result, Ok, Err}
use Rattle.bits.specs.Xor.{xor_of}
use Rattle.format.specs.Fmt.{Out, accepted, refused, or_bad, check}
use Rattle.format.specs.Message.{fault, between, ahead}
use Rattle.sentence.specs.Spelling.{all_digits, decimal, spelt, hex_of, unhexed, closing_of}
use Rattle.format.specs.Refusals.{number}
use Rattle.format.specs.declared.Reason.{Reason}

-- `$CCTXA,`
abbrev pub start_mark : List ℕ
start_mark = 0x24 ∷ 0x43 ∷ 0x43 ∷ 0x54 ∷ 0x58 ∷ 0x41 ∷ 0x2C ∷ []

-- `,2,2,A4`
abbrev pub inner_mark : List ℕ
inner_mark = 0x2C ∷ 0x32 ∷ 0x2C ∷ 0x32 ∷ 0x2C ∷ 0x41 ∷ 0x34 ∷ []

-- all before the `*`, with the address's digits
unfoldable pub opening : List ℕ → List ℕ → List ℕ
opening figures bytes = start_mark ++ (figures ++ (inner_mark ++ hex_of bytes))

-- its end put on, with the XOR of all between `$` and `*`
unfoldable pub summed_up : List ℕ → List ℕ
summed_up o = o ++ closing_of (xor_of (drop 1 o))

-- the sentence of an address and of the report's bytes
unfoldable pub sentence : ℕ → List ℕ → List ℕ
sentence address bytes = summed_up (opening (decimal 7 address) bytes)

-- ---- reading

unfoldable pub same_bytes : List ℕ → List ℕ → Bool
same_bytes [] [] = true
same_bytes [] (d ∷ t) = false
same_bytes (c ∷ s) [] = false
same_bytes (c ∷ s) (d ∷ t) = eqb c d && same_bytes s t

abbrev pub address_good : ℕ → Bool
address_good = between 1 2_097_151

-- the bytes from one offset up to another
abbrev pub part : ℕ → ℕ → List ℕ → List ℕ
part from to s = take (to - from) (drop from s)

-- the parts by the size, which fixes the address's length
abbrev pub address_part : List ℕ → List ℕ
address_part s = part 7 (length s - 46) s

abbrev pub inner_part : List ℕ → List ℕ
inner_part s = part (length s - 46) (length s - 39) s

abbrev pub hex_part : List ℕ → List ℕ
hex_part s = part (length s - 39) (length s - 5) s

abbrev pub summed : List ℕ → List ℕ
summed s = part 1 (length s - 5) s

abbrev pub last_five : List ℕ → List ℕ
last_five s = drop (length s - 5) s

-- digits with no leading zero, of a good address
unfoldable pub address_like : List ℕ → Bool
address_like ds = all_digits 10 ds && (not (eqb (get_or ds 0 0) 48) && address_good (spelt 0 ds))

unfoldable pub pattern_like : List ℕ → Bool
pattern_like s = same_bytes (inner_part s) inner_mark && (all_digits 16 (hex_part s) && address_like (address_part s))

-- the first tests: size (1), start (2), last five bytes and XOR (3)
unfoldable pub lead_of : List ℕ → ℕ
lead_of s =
    cond (between 54 60 (length s))
    (cond (same_bytes (take 7 s) start_mark) (cond (same_bytes (last_five s) (closing_of (xor_of (summed s)))) 0 3) 2)
    1

-- The sentence around a report: the first tests, then anything else unlike the pattern (4); or the address and the report's bytes.
unfoldable pub around_so : List ℕ → Out (ℕ × List ℕ)
around_so s = check (fault (lead_of s)) 0 (check (or_bad (pattern_like s) 4) 0 (accepted (spelt 0 (address_part s), unhexed (hex_part s))))

-- what the code tells of it: the address, or the refusal's number
abbrev pub around_of : Out (ℕ × List ℕ) → Out ℕ
around_of (accepted x) = accepted x.0
around_of (refused c p) = refused c 0

-- and how it tells it
abbrev pub told_around : Result ℕ Reason → Out ℕ
told_around (Ok a) = accepted a
told_around (Err r) = refused (number r) 0

-- ---- writing

-- w at the front of a lent buffer that then holds t, and past it what s had there
abbrev pub Front : List ℕ → List ℕ → List ℕ → Type 0
Front w s t = t ≡ ahead w s

-- the call that lays w over the front of a lent buffer s: where there is room, which r says; else every byte stays
abbrev pub Laid : List ℕ → List ℕ → Bool → List ℕ → Type 0
Laid w s r t = (r ≡ leb (length w) (length s)) × (t ≡ cond r (ahead w s) s)
