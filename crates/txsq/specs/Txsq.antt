-- The frame TXSQ (paper 01, "Serial frames"). Assumes nothing.
use Rattle.std.specs.Prelude.{ℕ, ◌%◌, Bool, true, cond, ◌&&◌, List, [], ◌∷◌, leb, eqb, length, get_or}
use Rattle.bits.specs.Bits.{field_at}
use Rattle.frame.specs.Frame.{frame, frames, address, declared, fits, content_of}
use Rattle.format.specs.Fmt.{Fmt, end, choice, pad}
use Rattle.format.specs.Message.{Layout}
use Rattle.format.specs.Words.{Test, ◌‥◌, ◌▹◌, num, code, twice, content, ago}
use Rattle.txsq.specs.declared.reading.Txsq.{Txsq}

-- `TXSQ`
abbrev pub letters : ℕ
letters = 0x5458_5351

-- the greatest value: 0 unless there is what it goes with
abbrev pub allowed : ℕ → ℕ → ℕ
allowed with most = cond (eqb with 0) 0 most

-- At most 188 bits for category 00, 83 with password, else 1,680; text mode (0) needs a multiple of 8.
abbrev pub good_length : ℕ → ℕ → ℕ → ℕ → Bool
good_length category mode password l = leb l (cond (eqb category 0) 188 (cond (eqb password 0) 1_680 83)) && (cond (eqb mode 0) (eqb (l % 8) 0) true)

-- the fault of a bit length: these limits are 4; then the content's size is 1
abbrev pub bounded : ℕ → ℕ → ℕ → ℕ → ℕ → ℕ
bounded category mode password length l = cond (good_length category mode password l) (cond (fits 18 length l) 0 1) 4

-- the same of the values before: receiver, password, mode, category, class, own address, length
abbrev pub limits : Test
limits h = good_length (ago 3 h) (ago 2 h) (ago 1 h)

abbrev pub filling : Test
filling h = fits 18 (ago 6 h)

-- what follows a bit length of l
abbrev pub rest : ℕ → Fmt
rest l =
    num 8 (λ h. (0 ‥ allowed (ago 2 h) 255) h)  -- answer, 0 where password is 0
    ▹ content l
    ▹ end

-- what follows the head
abbrev pub body : Fmt
body =
    code 4 0b0100  -- class: 010, key 0
    ▹ num 2 (0 ‥ 1)  -- category
    ▹ num 1 (0 ‥ 1)  -- mode
    ▹ num 1 (λ h. (0 ‥ allowed (ago 1 h) 1) h)  -- password, which needs category 01
    ▹ address  -- receiver
    ▹ choice 16 (twice 16 4 limits 1 filling) rest  -- bit length

unfoldable pub txsq : Fmt
txsq = frame letters 0 65_535 ▹ body

unfoldable pub txsqs : Layout
txsqs = frames letters 18 228 txsq

-- the values of a record and its content, in bit order
unfoldable pub values_of : Txsq × List ℕ → List ℕ
values_of x =
    let r = x.0 in
    let c = x.1 in
    0x24
    ∷ letters
    ∷ declared 18 (length c)
    ∷ r.address
    ∷ 0b0100
    ∷ r.category
    ∷ r.mode
    ∷ r.password
    ∷ r.receiver
    ∷ r.size
    ∷ r.answer
    ∷ field_at c 0 r.size
    ∷ field_at c r.size (pad r.size)
    ∷ []

unfoldable pub record_of : List ℕ → Txsq × List ℕ
record_of vs = (
  record {
    address = get_or vs 3 0;
    category = get_or vs 5 0;
    mode = get_or vs 6 0;
    password = get_or vs 7 0;
    receiver = get_or vs 8 0;
    size = get_or vs 9 0;
    answer = get_or vs 10 0;
  },
  content_of (get_or vs 9 0) (get_or vs 11 0) (get_or vs 12 0),
)
