-- What judging and putting a stretch that a row of numbers tells gives, counted groups among them: from number k of the row on. Where the row has no number, g counts for it. Assumes nothing.
use Rattle.std.specs.Prelude.{ℕ, zero, suc, ◌+◌, ◌*◌, ◌%◌, ◌^◌, cond, List, get_or, ◌==◌, slice_index_or}
use Rattle.format.specs.Correcting.{put_in}
use Rattle.walk.specs.Judging.{valued}
use Rattle.walk.specs.declared.making.Laid.{Laid}
use Rattle.walk.specs.Walk.{Stepped}
use Rattle.walk.specs.Walk.{Walk}

-- ---- judged

abbrev pub JudgeStep : Type 0
JudgeStep = (k : ℕ) → Walk → Stepped

-- one field, judged by its number
abbrev pub one_judged : List ℕ → (g : ℕ) → (ℕ → Walk → Walk) → JudgeStep
one_judged row g q k r = record { walk = q (slice_index_or row k g) r; next = k + 1 }

abbrev pub then_judged : JudgeStep → JudgeStep → JudgeStep
then_judged a b k r = let p = a k r in b p.next p.walk

-- what a number decides
abbrev pub decided_judged : List ℕ → (g w lo hi : ℕ) → (ℕ → JudgeStep) → JudgeStep
decided_judged row g w lo hi step k r = let v = get_or row k g in step v (k + 1) (valued w v lo hi r)

-- n items of l numbers each, all of them
unfoldable pub even_judged : (l n : ℕ) → (ℕ → Walk → Walk) → ℕ → Walk → Walk
even_judged l zero q k r = r
even_judged l (suc n) q k r = even_judged l n q (k + l) (q k r)

abbrev pub even_step : (l n : ℕ) → (ℕ → Walk → Walk) → JudgeStep
even_step l n q k r = record { walk = even_judged l n q k r; next = k + n * l }

-- as many as the number before them says; where that is refused they are not walked
abbrev pub counted_judged : List ℕ → (g w lo hi l : ℕ) → (ℕ → Walk → Walk) → JudgeStep
counted_judged row g w lo hi l q k r =
    let n = get_or row k g in
    let c = valued w n lo hi r in
    cond (c.code == 0) (even_step l n q (k + 1) c) (record { walk = c; next = k + 1 })

-- n items; the first refused one ends it
unfoldable pub repeat_judged : ℕ → JudgeStep → JudgeStep
repeat_judged zero step k r = record { walk = r; next = k }
repeat_judged (suc n) step k r = let a = step k r in cond (a.walk.code == 0) (repeat_judged n step a.next a.walk) a

-- ---- put, at a bit of the bytes t: where what follows begins, and the bytes

abbrev pub Put : Type 0
Put = Laid × List ℕ

abbrev pub PutStep : Type 0
PutStep = (k at : ℕ) → List ℕ → Put

abbrev pub one_put : List ℕ → (g w : ℕ) → PutStep
one_put row g w k at t = (record { at = at + w; next = k + 1 }, put_in t at w (slice_index_or row k g))

abbrev pub then_put : PutStep → PutStep → PutStep
then_put a b k at t = let p = a k at t in b p.0.next p.0.at p.1

abbrev pub decided_put : List ℕ → (g w : ℕ) → (ℕ → PutStep) → PutStep
decided_put row g w step k at t = let v = get_or row k g in step v (k + 1) (at + w) (put_in t at w v)

-- n items of l numbers and b bits each
unfoldable pub even_put : (l b n : ℕ) → ((k at : ℕ) → List ℕ → List ℕ) → (k at : ℕ) → List ℕ → List ℕ
even_put l b zero q k at t = t
even_put l b (suc n) q k at t = even_put l b n q (k + l) (at + b) (q k at t)

abbrev pub even_put_step : (l b n : ℕ) → ((k at : ℕ) → List ℕ → List ℕ) → PutStep
even_put_step l b n q k at t = (record { at = at + n * b; next = k + n * l }, even_put l b n q k at t)

-- as many as the w bits before them tell, whatever the number
abbrev pub counted_put : List ℕ → (g w l b : ℕ) → ((k at : ℕ) → List ℕ → List ℕ) → PutStep
counted_put row g w l b q k at t = let n = get_or row k g in even_put_step l b (n % 2 ^ w) q (k + 1) (at + w) (put_in t at w n)

unfoldable pub repeat_put : ℕ → PutStep → PutStep
repeat_put zero step k at t = (record { at = at; next = k }, t)
repeat_put (suc n) step k at t = let a = step k at t in repeat_put n step a.0.next a.0.at a.1
