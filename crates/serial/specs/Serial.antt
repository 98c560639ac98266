-- A serial frame of any kind (paper 01, "Serial frames"; "Refusal numbers" for the order). Assumes nothing.
use Rattle.std.specs.Prelude.{ℕ, cond, List, leb, eqb, length}
use Rattle.bits.specs.Bits.{field_at}
use Rattle.format.specs.Message.{read_message, told}
use Rattle.format.specs.Refusals.{bare}
use Rattle.format.specs.Refusals.{Verdict}
use Rattle.gljc.specs.Gljc.{gljcs, letters as GLJC}
use Rattle.txsq.specs.Txsq.{txsqs, letters as TXSQ}
use Rattle.txxx.specs.Txxx.{txxxs, letters as TXXX}
use Rattle.txhz.specs.Txhz.{txhzs, letters as TXHZ}

-- what reading the frame of these letters answers; other letters are 2
unfoldable pub refusal_as : ℕ → List ℕ → Verdict
refusal_as letters s =
    cond (eqb letters GLJC) (told (read_message gljcs s))
    (cond (eqb letters TXSQ) (told (read_message txsqs s))
    (cond (eqb letters TXXX) (told (read_message txxxs s))
    (cond (eqb letters TXHZ) (told (read_message txhzs s)) (bare 2))))

-- the smallest size (1), `$` and letters (2), then as the frame of these letters is read
unfoldable pub refusal_of : List ℕ → Verdict
refusal_of s = cond (leb 12 (length s)) (cond (eqb (field_at s 0 8) 0x24) (refusal_as (field_at s 8 32) s) (bare 2)) (bare 1)
