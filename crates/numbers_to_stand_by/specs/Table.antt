-- Paper 01, "Numbers to stand by", as one table: of each line what the definitions answer and what the paper says; one test over all of it, and how many rows each letter has. Assumes nothing.
use Rattle.std.specs.Prelude.{ℕ, suc, Bool, true, false, ◌&&◌, cond, List, [], ◌∷◌, eqb}
use Rattle.outline.specs.Angles.{northing, easting}
use Rattle.places.specs.Desk.{alike}
use Rattle.numbers_to_stand_by.specs.Cases.{plus, minus, signs, sender, checked, position, longitude_read, longitude_written, notice_bytes, notice_written, notice_read, year_corrected, packet_head, packet_read, held_replies, missing, slots, south, west, outlined}

-- a line's letter
pub data Letter : Type 0 where
  A : Letter
  B : Letter
  C : Letter
  D : Letter
  E : Letter
  F : Letter
  G : Letter
  H : Letter
  I : Letter
  J : Letter
  K : Letter
  L : Letter

pub record Row : Type 0 where
  pub letter : Letter
  -- what the definitions answer
  pub answer : List ℕ
  -- what the paper says
  pub paper : List ℕ

abbrev pub says : Letter → List ℕ → List ℕ → Row
says l a p = record { letter = l; answer = a; paper = p }

abbrev pub table : List Row
table =
    -- good; own address 131,258, 16 bits
    says A sender (0 ∷ 131_258 ∷ 16 ∷ [])
    -- 2A good, 0B is 3
    ∷ says B (checked 0x2A) (0 ∷ [])
    ∷ says B (checked 0x0B) (3 ∷ [])
    -- longitude 7,387,407, latitude 107,380
    ∷ says C position (0 ∷ plus ∷ 7_387_407 ∷ plus ∷ 107_380 ∷ [])
    -- longitude 10,800,000 good
    ∷ says D (longitude_read 10_800_000) (0 ∷ plus ∷ 10_800_000 ∷ [])
    ∷ says D (longitude_written 10_800_000) (0 ∷ plus ∷ 10_800_000 ∷ [])
    -- longitude 10,800,001 is 4
    ∷ says E (longitude_read 10_800_001) (4 ∷ [])
    ∷ says E (longitude_written 10_800_001) (4 ∷ [])
    -- longitude 10,860,000 is none, which is good
    ∷ says F (longitude_read 10_860_000) (0 ∷ plus ∷ 10_860_000 ∷ [])
    ∷ says F (longitude_written 10_860_000) (0 ∷ plus ∷ 10_860_000 ∷ [])
    -- source 4, station 1, serial 1, year 24, type 4, subtype 6, nothing more: `20 80 02 61 18 00 00 00`
    ∷ says G (notice_written true 24) (0 ∷ notice_bytes 0x61)
    ∷ says G (notice_written false 24) (0 ∷ notice_bytes 0x61)
    ∷ says G (notice_read true 0x61) (0 ∷ 4 ∷ 1 ∷ 1 ∷ 24 ∷ 4 ∷ 6 ∷ 0 ∷ 0 ∷ [])
    ∷ says G (notice_read false 0x61) (0 ∷ 4 ∷ 1 ∷ 1 ∷ 24 ∷ 4 ∷ 6 ∷ 0 ∷ 0 ∷ [])
    -- G with year 25: fourth byte 65
    ∷ says H (year_corrected true 0x61 25) (0 ∷ notice_bytes 0x65)
    ∷ says H (year_corrected false 0x61 25) (0 ∷ notice_bytes 0x65)
    ∷ says H (notice_written true 25) (0 ∷ notice_bytes 0x65)
    ∷ says H (notice_written false 25) (0 ∷ notice_bytes 0x65)
    -- packet head, Chinese, number 7, 1 of 1: `E1 20 70 40`
    ∷ says I packet_head (0 ∷ 0xE1 ∷ 0x20 ∷ 0x70 ∷ 0x40 ∷ [])
    ∷ says I packet_read (0 ∷ 0 ∷ 7 ∷ 1 ∷ 0 ∷ 0x41 ∷ [])
    -- total 3, packets 2 and 0 held: missing 1
    ∷ says J held_replies (0 ∷ 0 ∷ [])
    ∷ says J missing (9 ∷ 1 ∷ 1 ∷ [])
    -- message 8: 12 bytes 1 slot, 13 two, 121 five, 122 refused
    ∷ says K (slots 12) (0 ∷ 1 ∷ [])
    ∷ says K (slots 13) (0 ∷ 2 ∷ [])
    ∷ says K (slots 121) (0 ∷ 5 ∷ [])
    ∷ says K (slots 122) (1 ∷ [])
    -- S 0°00.01' is −1; W 180°60.99' is −1,086,099
    ∷ says L (signs (northing south ∷ [])) (minus ∷ 1 ∷ [])
    ∷ says L (signs (easting west ∷ [])) (minus ∷ 1_086_099 ∷ [])
    ∷ says L outlined (0 ∷ minus ∷ 1 ∷ minus ∷ 1_086_099 ∷ [])
    ∷ []

-- whether in each row both are the same
unfoldable pub standing : List Row → Bool
standing [] = true
standing (r ∷ rs) = alike r.answer r.paper && standing rs

-- a letter's place in the alphabet
unfoldable pub rank : Letter → ℕ
rank A = 1
rank B = 2
rank C = 3
rank D = 4
rank E = 5
rank F = 6
rank G = 7
rank H = 8
rank I = 9
rank J = 10
rank K = 11
rank L = 12

-- one row more of a letter, before those that were counted
unfoldable pub one_more : Letter → List (Letter × ℕ) → List (Letter × ℕ)
one_more l [] = (l, 1) ∷ []
one_more l (t ∷ ts) = cond (eqb (rank l) (rank t.0)) ((l, suc t.1) ∷ ts) ((l, 1) ∷ t ∷ ts)

-- the letters in the order of their rows, each with how many it has
unfoldable pub tally : List Row → List (Letter × ℕ)
tally [] = []
tally (r ∷ rs) = one_more r.letter (tally rs)
