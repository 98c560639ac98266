-- The frame TXXX (paper 01, "Serial frames"). Assumes nothing.
use Rattle.std.specs.Prelude.{ℕ, cond, List, [], ◌∷◌, leb, length, get_or}
use Rattle.bits.specs.Bits.{field_at}
use Rattle.frame.specs.Frame.{frame, frames, address, hour, minute, declared, fits, content_of}
use Rattle.format.specs.Fmt.{Fmt, end, choice, pad}
use Rattle.format.specs.Message.{Layout}
use Rattle.format.specs.Words.{Test, ◌‥◌, ◌▹◌, num, twice, content, ago}
use Rattle.txxx.specs.declared.reading.Txxx.{Txxx}

-- `TXXX`
abbrev pub letters : ℕ
letters = 0x5458_5858

-- At most 1,680 bits.
abbrev pub limits : Test
limits h l = leb l 1_680

-- the content's size, of the values before: minute, hour, sender, class, own address, length
abbrev pub filling : Test
filling h = fits 20 (ago 5 h)

-- the fault of a bit length: the limit is 4; then the content's size is 1
abbrev pub bounded : ℕ → ℕ → ℕ
bounded length l = cond (leb l 1_680) (cond (fits 20 length l) 0 1) 4

-- what follows a bit length of l
abbrev pub rest : ℕ → Fmt
rest l =
    content l
    ▹ num 8 (0 ‥ 255)  -- CRC mark
    ▹ end

-- what follows the head
abbrev pub body : Fmt
body =
    num 8 (0 ‥ 255)  -- class
    ▹ address  -- sender
    ▹ hour
    ▹ minute
    ▹ choice 16 (twice 16 4 limits 1 filling) rest  -- bit length

unfoldable pub txxx : Fmt
txxx = frame letters 0 65_535 ▹ body

unfoldable pub txxxs : Layout
txxxs = frames letters 20 230 txxx

-- the values of a record and its content, in bit order
unfoldable pub values_of : Txxx × List ℕ → List ℕ
values_of x =
    let r = x.0 in
    let c = x.1 in
    0x24
    ∷ letters
    ∷ declared 20 (length c)
    ∷ r.address
    ∷ r.class
    ∷ r.sender
    ∷ r.hour
    ∷ r.minute
    ∷ r.size
    ∷ field_at c 0 r.size
    ∷ field_at c r.size (pad r.size)
    ∷ r.mark
    ∷ []

unfoldable pub record_of : List ℕ → Txxx × List ℕ
record_of vs = (
  record {
    address = get_or vs 3 0;
    class = get_or vs 4 0;
    sender = get_or vs 5 0;
    hour = get_or vs 6 0;
    minute = get_or vs 7 0;
    size = get_or vs 8 0;
    mark = get_or vs 11 0;
  },
  content_of (get_or vs 8 0) (get_or vs 9 0) (get_or vs 10 0),
)
