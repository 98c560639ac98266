-- Over lent bytes too the desk takes in what it should: what becomes of the packet is said of the row of places that the bytes say (places/specs/Laws/Taken). Assumes nothing.
use Rattle.std.specs.Prelude.{◌≡◌, List, ℕ}
use Rattle.std.proofs.Common.{ap, ◌∙◌}
use Rattle.format.specs.Fmt.{accepted}
use Rattle.format.specs.Promises.{read_record}
use Rattle.format.specs.Refusals.{bare}
use Rattle.format.specs.Refusals.{Verdict}
use Rattle.packet.specs.Packet.{packets, record_of}
use Rattle.packet.specs.declared.reading.Packet.{Packet}
use Rattle.places.specs.Desk.{refusal_of, first_tests, Accepting}
use Rattle.places.specs.Laws.Taken.{Takes, takes_zero}
use Rattle.places.proofs.Laws.Taken.{taking}
use Rattle.desk_bytes.specs.Bytes.{row_in, changed_bytes}
use Rattle.desk_bytes.specs.Promises.{again_of, AcceptsIn}

pub takes_in : (bs s m : List ℕ) (r : Packet) (c : List ℕ) → first_tests (row_in bs) s ≡ 0 → read_record packets record_of m ≡ accepted (r, c) → {o : Accepting} → Takes (row_in bs) s r c o
    → (again : ℕ) (code : Verdict) (cs t : List ℕ) (again' : ℕ) → AcceptsIn bs s m again code cs t again'
    → (code ≡ bare 0) × (cs ≡ changed_bytes bs o.change) × (t ≡ o.store) × (again' ≡ again_of o.reply again)
takes_in bs s m r c tests reads x again code cs t again' (d, e, f, g) =
    let is = taking (row_in bs) s m r c tests reads x in (
      d ∙ ap (λ (o : Accepting). refusal_of o.reply) is ∙ takes_zero x,
      e ∙ ap (λ (o : Accepting). changed_bytes bs o.change) is,
      f ∙ ap (λ (o : Accepting). o.store) is,
      g ∙ ap (λ (o : Accepting). again_of o.reply again) is,
    )
