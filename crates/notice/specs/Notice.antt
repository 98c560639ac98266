-- The notice (paper 01, "Notice and packet"; 000, 5.2.2), over its terms; ours are told a language: English, or else Chinese. Assumes nothing.
use Rattle.std.specs.Prelude.{ℕ, ◌*◌, Bool, true, false, List, length}
use Rattle.bits.specs.Bits.{bytes_of}
use Rattle.format.specs.Fmt.{Fmt, end, field, bytes}
use Rattle.format.specs.Message.{Layout, led, between}
use Rattle.format.specs.Words.{◌‥◌, unless, kept, ◌▹◌, num, deciding}
use Rattle.notice_fields.specs.Parts.{subtypes, subtype, expiry}
use Rattle.notice_fields.specs.Areas.{areas}
use Rattle.notice_fields.specs.Terms.{Terms, our_point}
use Rattle.packet.specs.Packet.{joined}
use Rattle.text.specs.Text.{in_language}

-- all whole bytes that are left
abbrev pub text : Terms → Fmt → Fmt
text c f = bytes λ n. field (n * 8) (λ h b. unless (c.text (bytes_of n b)) 4 0) kept f

-- what follows the count of areas
abbrev pub rest : Terms → ℕ → Fmt
rest c n = areas c.point n ▹ text c ▹ end

unfoldable pub notice : Terms → Fmt
notice c =
    num 5 (1 ‥ 21)  -- source
    ▹ num 4 (1 ‥ 3)  -- station
    ▹ num 14 (1 ‥ 9_999)  -- serial
    ▹ num 7 (0 ‥ 99)  -- year
    ▹ num 4 (1 ‥ 8)  -- type
    ▹ num 4 (subtype c.subtypes)
    ▹ expiry
    ▹ deciding 4 (0 ‥ 15) (rest c)

-- 8 to 12,978 bytes: what 63 packets of 206 can carry
abbrev pub sizes : List ℕ → ℕ
sizes = led 8 (λ s. true) (λ s. between 8 joined (length s))

-- a notice has no kind of its own
unfoldable pub notices : Terms → Layout
notices c = record {
  lead = sizes;
  kind = λ vs. 0;
  least = 8;
  most = joined;
  seal = false;
  fmt = notice c;
}

-- ours: in English, or else in Chinese
abbrev pub ours : Bool → Terms
ours english = record { point = our_point; subtypes = subtypes; text = in_language english }
