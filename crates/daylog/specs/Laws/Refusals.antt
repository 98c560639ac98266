-- A refusal by the day log's calls changes no byte that was lent, lists nothing and makes nothing. Assumes nothing.
use Rattle.std.specs.Prelude.{◌≡◌, ℕ, ◌-◌, Bool, true, false, cond, ◌&&◌, List, [], length, take, drop, ◌≢◌, nat_le, refl}
use Rattle.std.proofs.Common.{ap, ◌∙◌}
use Rattle.format.specs.Message.{ahead}
use Rattle.daylog.specs.Text.{head}
use Rattle.daylog.specs.Records.{records, size_of}
use Rattle.daylog.specs.Log.{after_all, lines, ending_of}
use Rattle.daylog.specs.Promises.{room_code, roomed, chosen, Lays, Lists, Keeps}
use Rattle.daylog.specs.Turns.{Begins, Gives, closing, Turns}
use Rattle.daylog.specs.Laws.Turns.{none_listed, window, Does, refuses, counts, ends_broken, ends, keeps, does, Kept, breaks, waits, kept_as}
use Rattle.daylog.specs.Promises.{Laid}
use Rattle.daylog.specs.Promises.{Listed}
use Rattle.daylog.specs.Turns.{State}

-- a text without room is not there
none_roomed : (out t : List ℕ) → (room_code out t ≢ 0) → roomed out t ≡ []
none_roomed out t = go (nat_le (length t) (length out))
  where
    go : (b : Bool) → (◌≡◌ {A = ℕ} (cond b 0 6) 0 → ⊥) → cond b t [] ≡ []
    go true h = absurd (h refl)
    go false h = refl

-- `heading` and `ending`
pub refused_laid : {out t : List ℕ} {r : Laid} {left : List ℕ} → Lays out t r left → (r.code ≢ 0) → (r.bytes ≡ 0) × (left ≡ out)
refused_laid {out} {t} p h =
    let e = none_roomed out t (λ z. h (p.code ∙ z)) in
    (p.text.count ∙ ap length e, p.text.leaves ∙ ap (λ x. ahead x out) e)

pub refused_list : {s : List ℕ} {n : ℕ} {out : List ℕ} {r : Listed} {left : List ℕ} → Lists s n out r left → (r.code ≢ 0)
    → (r.used ≡ 0) × (r.made ≡ 0) × (r.number ≡ n) × (left ≡ out)
unfolding size_of after_all lines
refused_list {s} {n} {out} p h =
    let e = none_listed (records s) (chosen s n out) (λ z. h (p.code ∙ z)) in
    (p.used ∙ ap size_of e, p.text.count ∙ ap (λ x. length (lines n x)) e, p.number ∙ ap (after_all n) e, p.text.leaves ∙ ap (λ x. ahead (lines n x) out) e)

pub refused_keeping : {s : List ℕ} {a e : ℕ} {r : Laid} {left : List ℕ} → Keeps s a e r left → (r.code ≢ 0) → (r.bytes ≡ 0) × (left ≡ s)
refused_keeping {s} {a} {e} {r} {left} p h = go (nat_le a e) (nat_le e (length s)) refl refl
  where
    part : Bool → Bool → List ℕ
    part x y = cond (y && x) (take (e - a) (drop a s)) []

    go : (x y : Bool) → nat_le a e ≡ x → nat_le e (length s) ≡ y → (r.bytes ≡ 0) × (left ≡ s)
    go true true f g = absurd (h (p.code ∙ (λ i. cond (f i) (cond (g i) 0 6) 4)))
    go x false f g = (p.kept.count ∙ (λ i. length (part (f i) (g i))), p.kept.leaves ∙ (λ i. ahead (part (f i) (g i)) s))
    go false true f g = (p.kept.count ∙ (λ i. length (part (f i) (g i))), p.kept.leaves ∙ (λ i. ahead (part (f i) (g i)) s))

pub refused_beginning : {text : List ℕ} {r : State} {left : List ℕ} → Begins text r left → (r.code ≢ 0) → (r.made ≡ 0) × (left ≡ text)
refused_beginning {text} p h =
    let e = none_roomed text head (λ z. h (ap (λ s. s.code) p.answer ∙ z)) in
    (ap (λ s. s.made) p.answer ∙ ap length e, p.leaves ∙ ap (λ x. ahead x text) e)

pub refused_turn : {t r : State} {input kept text left : List ℕ} {got : ℕ} → Turns t input got text r kept left → t.done ≡ false → (r.code ≢ 0)
    → (r.made ≡ 0) × (kept ≡ input) × (left ≡ text)
refused_turn {t} {r} {input} {kept} {text} {left} {got} p d h = go (does t input got text d p.is)
  where
    closed : (line : List ℕ) → Gives r kept left (closing t input text line) → (r.made ≡ 0) × (kept ≡ input) × (left ≡ text)
    closed line e =
        let f = none_roomed text line (λ z. h (ap (λ o. o.turn.code) e ∙ z)) in
        (ap (λ o. o.turn.made) e ∙ ap length f, ap (λ o. o.input) e, ap (λ o. o.text) e ∙ ap (λ x. ahead x text) f)

    goes_on : {made n : ℕ} {rest listed : List ℕ} → Kept made n rest input listed (record { turn = r; input = kept; text = left }) → (r.made ≡ 0) × (kept ≡ input) × (left ≡ text)
    goes_on (breaks f e) = absurd (h (ap (λ o. o.turn.code) e))
    goes_on (waits f e) = absurd (h (ap (λ o. o.turn.code) e))

    go : Does t input got text (record { turn = r; input = kept; text = left }) → (r.made ≡ 0) × (kept ≡ input) × (left ≡ text)
    go (refuses x k e) = (ap (λ o. o.turn.made) e, ap (λ o. o.input) e, ap (λ o. o.text) e)
    go (counts b e) = absurd (h (ap (λ o. o.turn.code) e))
    go (ends_broken b g k e) = closed (ending_of t.number t.left) e
    go (ends b g k f z e) = closed (ending_of t.number (length (window t input got text))) e
    go (keeps b f z e) = goes_on (kept_as _ _ _ _ _ e)
