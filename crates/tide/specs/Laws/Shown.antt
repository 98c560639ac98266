-- What was read is what stands in the bits: the count in nine bits at 12, the records from bit 21 on; and so are the heights. Assumes nothing.
use Rattle.std.specs.Prelude.{ℕ, ◌≡◌, refl, Bool, true, false, cond, List, [], leb, ℤ, length, Ok}
use Rattle.std.proofs.Common.{sym, ap, ◌∙◌, eq-eqb}
use Rattle.bits.specs.Answers.{got}
use Rattle.format.specs.Fmt.{Out, accepted, refused, check, or_bad, also}
use Rattle.format.specs.Message.{told, leaves, into, ahead, read_message}
use Rattle.format.specs.Promises.{plain, read_record}
use Rattle.format.specs.Refusals.{Verdict}
use Rattle.format.specs.Laws.Lead.{read_led}
use Rattle.format.specs.Laws.Round.{clash, also_inv, accepted_inj}
use Rattle.walk.specs.Walk.{onward}
use Rattle.tide.specs.Heights.{heights_at}
use Rattle.tide.specs.HeightsPromises.{heights_in, heights_read, Shows}
use Rattle.tide.specs.Record.{Whole, record_of}
use Rattle.tide.specs.Standing.{front, records_at}
use Rattle.tide.specs.Steps.{head_read, unread_by, behind, course_of}
use Rattle.tide.specs.Tide.{tides}
use Rattle.tide.specs.Laws.Heights.{heights_stand}
use Rattle.tide.specs.Laws.Told.{walked_good, walked_told}

count_stands : (s : List ℕ) → tides.lead s ≡ 0 → (course_of 0 s).tide.count ≡ got s 12 9
unfolding course_of onward
count_stands s z = ap (λ b. (cond b (behind s (head_read 0 s)) (unread_by (tides.lead s))).tide.count) (eq-eqb (tides.lead s) 0 z)

-- What reading accepts has the count and the numbers that stand in the bits.
pub read_stands : (s : List ℕ) (x : Whole) → read_record tides record_of s ≡ accepted x → let n = got s 12 9 in x ≡ (record { count = n }, records_at s n front)
read_stands s x e =
    let (vs, m, k) = also_inv record_of (read_message tides s) e in
    let zero : (told (read_message tides s)).code ≡ 0 = ap (λ o. (told o).code) m in
    let f = course_of 0 s in
    let good = walked_good 0 s f refl (ap (λ (r : Verdict). r.code) (walked_told 0 s f refl) ∙ zero) in
    let n : f.tide.count ≡ got s 12 9 = count_stands s (read_led tides s zero) in
    accepted_inj (sym e ∙ good) ∙ (λ i. (record { count = n i }, records_at s (n i) front))

-- The heights that were handed out are those that stand in the bits, in front of the row: as many as were told.
pub heights_in_bits : (s : List ℕ) (row : List ℤ) (n : ℕ) (t : List ℤ) → Shows s row (Ok n) t → let zs = heights_at s (got s 12 9) front in (n ≡ length zs) × (t ≡ ahead zs row)
heights_in_bits s row n t (x, y) = go (read_record tides record_of s) refl x y
  where
    zs : List ℤ
    zs = heights_at s (got s 12 9) front

    stand : (w : Whole) → read_record tides record_of s ≡ accepted w → heights_in w ≡ zs
    stand w e = ap heights_in (read_stands s w e) ∙ heights_stand s (got s 12 9) front

    room : (w : Whole) → read_record tides record_of s ≡ accepted w → (b : Bool) → accepted n ≡ plain (also (λ t. length (leaves (heights_read s) [])) (check (or_bad b 6) 0 (accepted (ahead (heights_in w) row))))
        → t ≡ leaves (check (or_bad b 6) 0 (accepted (ahead (heights_in w) row))) row → (n ≡ length zs) × (t ≡ ahead zs row)
    room w e true x y =
        let many = accepted_inj x in
        (many ∙ ap (λ o. length (leaves (also heights_in o) [])) e ∙ ap length (stand w e), y ∙ ap (λ l. ahead l row) (stand w e))
    room w e false x y = clash (sym x)

    go : (o : Out Whole) → read_record tides record_of s ≡ o → accepted n ≡ plain (also (λ t. length (leaves (heights_read s) [])) (into row (also heights_in o))) → t ≡ leaves (into row (also heights_in o)) row → (n ≡ length zs) × (t ≡ ahead zs row)
    go (accepted w) e x y = room w e (leb (length (heights_in w)) (length row)) x y
    go (refused c p) e x y = clash (sym x)
