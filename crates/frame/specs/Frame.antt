-- What the serial frames share (paper 01, "Serial frames"). Assumes nothing.
use Rattle.std.specs.Prelude.{ℕ, ◌+◌, ◌/◌, ◌^◌, Bool, true, cond, ◌&&◌, List, ◌++◌, ltb, eqb, length}
use Rattle.bits.specs.Bits.{field_at, digits, bytes_of}
use Rattle.format.specs.Fmt.{Fmt, field, pad}
use Rattle.format.specs.Message.{Layout, led, between}
use Rattle.format.specs.Words.{◌‥◌, ◌▹◌, only, kept, num, code}

-- an address: the own one, a receiver's or a sender's
abbrev pub address : Fmt → Fmt
address = num 24 (0 ‥ 2_097_151)

-- a time of day
abbrev pub last_hour : ℕ
last_hour = 23

abbrev pub last_minute : ℕ
last_minute = 59

abbrev pub hour : Fmt → Fmt
hour = num 8 (0 ‥ last_hour)

abbrev pub minute : Fmt → Fmt
minute = num 8 (0 ‥ last_minute)

-- `$`, four letters, the length of the whole frame (lo to hi; that it is the frame's is a first test), the own address, the body; the seal is the layout's
abbrev pub frame : ℕ → ℕ → ℕ → Fmt → Fmt
frame letters lo hi body = code 8 0x24 ▹ code 32 letters ▹ field 16 (only 16 1 (lo ‥ hi)) kept ▹ address ▹ body

-- the smallest size, 12 (1); `$` and the letters (2); the kind's least and greatest size, and the declared one (1)
unfoldable pub leads : ℕ → ℕ → ℕ → List ℕ → ℕ
leads letters least most =
    led 12 (λ s. eqb (field_at s 0 8) 0x24 && eqb (field_at s 8 32) letters) (λ s. between least most (length s) && eqb (field_at s 40 16) (length s))

abbrev pub frames : ℕ → ℕ → ℕ → Fmt → Layout
frames letters least most fmt = record { lead = leads letters least most; kind = λ vs. 0; least = least; most = most; seal = true; fmt = fmt }

-- the length of a frame that has `fixed` bytes besides n of content; 0, which is no frame's, where 16 bits cannot tell it
unfoldable pub declared : ℕ → ℕ → ℕ
declared fixed n = cond (ltb (fixed + n) (2 ^ 16)) (fixed + n) 0

-- ---- content

-- the bytes of l bits
abbrev pub bytes_for : ℕ → ℕ
bytes_for l = (l + 7) / 8

-- a bit length whose content makes the frame's length
abbrev pub fits : ℕ → ℕ → ℕ → Bool
fits fixed length l = eqb length (fixed + bytes_for l)

-- the whole bytes of content with l bits, the number v, and the fill x
unfoldable pub content_of : ℕ → ℕ → ℕ → List ℕ
content_of l v x = bytes_of (bytes_for l) (digits l v ++ digits (pad l) x)
