-- What the code's walk over areas answers: before an area's points, over them and behind them; and over all areas. Assumes nothing.
use Rattle.std.specs.Prelude.{ℕ, true, false, List}
use Rattle.walk.specs.Groups.{Step, single, then_step, unless_refused, repeat_walked, decided_walked}
use Rattle.walk.specs.Reading.{ranged}
use Rattle.walk.specs.Walk.{Walk, seen}
use Rattle.notice_fields.specs.PartsSteps.{latitude_read, longitude_read}
use Rattle.notice_fields.specs.Areas.{Kind, sea, circle, several, kind_of}
use Rattle.notice_fields.specs.declared.areas.Opened.{Opened as Declared}

-- the walk in front of an area's points, and how many they are
pub record Opened : Type 0 where
  pub walk : Walk
  pub points : ℕ

abbrev pub opened : Declared → Opened
opened x = record { walk = seen x.walk; points = x.points }

-- of a kind, up to its points, and how many they are
unfoldable pub opened_as : Kind → List ℕ → Walk → Opened
opened_as sea s r = record { walk = ranged s 8 true 0 255 4 r; points = 0 }
opened_as circle s r = record { walk = r; points = 1 }
opened_as (several least) s r = let c = ranged s 4 false least 15 4 r in record { walk = c; points = c.v }

-- behind its points
unfoldable pub closed_as : Kind → List ℕ → Walk → Walk
closed_as sea s r = r
closed_as circle s r = ranged s 2 true 0 3 4 (ranged s 10 true 0 1_023 4 r)
closed_as (several least) s r = r

-- over a point: a bad one ends the walk, and what follows is not walked
abbrev pub point_step : List ℕ → Step
point_step s = then_step (single (latitude_read s)) (then_step (single (longitude_read s)) unless_refused)

-- what a kind holds
abbrev pub inside_step : List ℕ → Kind → Step
inside_step s k next r = let a = opened_as k s r in repeat_walked a.points (point_step s) (λ w. next (closed_as k s w)) a.walk

abbrev pub area_step : List ℕ → Step
area_step s = decided_walked s 3 0 4 (λ k. inside_step s (kind_of k))

-- over n areas
abbrev pub areas_walked : List ℕ → ℕ → Walk → Walk
areas_walked s n = repeat_walked n (area_step s) (λ w. w)
