-- `whole_bytes::put_bytes` meets its contract: where there is nothing to put, every byte stays.
use Rattle.std.proofs.Common.{◌+◌, ◌*◌, length, leb-true, eqb-true, sym, ◌∙◌}
use Rattle.bits.proofs.Pouring.{poured_none}
use Rattle.bits.proofs.whole_bytes.put_bytes.Goals as goal
use Rattle.bits.proofs.whole_bytes.put_bytes.Goals.{else-fits-via-then-fits+else-not-is_empty, else-fits-via-else-fits}

pub returns-else-fits : goal.returns-else-fits
returns-else-fits c =
    let a = c.args in
    elim c.else-fits.branch [
      | else-fits-via-then-fits+else-not-is_empty w ↦
          let holding = sym w.if-fits.true ∙ c.spans-fits.ensures in
          let fits = leb-true (a.at + length a.t.now * 8) (length a.buf.now * 8) (sym holding) in
          let same = poured_none a.buf.now a.at a.t.now (λ i. (c.type_inv.buf i).fits) (eqb-true _ 0 (sym w.is_empty.ensures ∙ w.if-not-is_empty.false)) fits in
          (c.spans-fits.ensures, rw w.if-fits.true same)
      | else-fits-via-else-fits w ↦ (c.spans-fits.ensures, rw w.if-fits.false)
    ]
