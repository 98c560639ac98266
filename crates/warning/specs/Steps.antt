-- What the code's steps over a body leave: where reading, judging or putting stood at it, bit 106, it stands behind it, bit 156. Assumes nothing.
use Rattle.std.specs.Prelude.{ℕ, ◌≡◌, Bool}
use mathlib.Core.List.{List, [], reverse_aux}
use Rattle.format.specs.Fmt.{Out, Fmt}
use Rattle.format.specs.Laws.Putting.{Putting}
use Rattle.walk.specs.Laws.Judging.{Judging}
use Rattle.walk.specs.Laws.Step.{Reading}
use Rattle.walk.specs.Walk.{Walk}
use Rattle.warning.specs.Bodies.{Kind, kind_of, type_of, body, body_kind, body_values}
use Rattle.warning.specs.declared.bodies.Body.{Body}

-- the values of a body, the latest first, in front of h
abbrev backwards : Body → List ℕ → List ℕ
backwards b h = reverse_aux (body_values b []) h

-- the layout of a body in front of f, by its warning type
abbrev bodied : Body → Fmt → Fmt
bodied b = body (kind_of (type_of (body_kind b)))

-- a body of kind t was read
pub record BodyRead (s : List ℕ) (t : Kind) (r g : Walk) (b : Body) : Type 0 where
  pub kind : body_kind b ≡ t
  pub on : {o : Out (List ℕ)} {all f : Fmt} {i : ℕ} {h : List ℕ} {k : List ℕ → List ℕ} → Reading o all i s (body t f) h 106 k r
      → Reading o all i s f (backwards b h) 156 (λ vs. k (body_values b vs)) g

-- a body was judged
pub record BodyJudged (b : Body) (r g : Walk) : Type 0 where
  pub on : {o : Out (List Bool)} {f : Fmt} {h vs : List ℕ} → Judging o (bodied b f) h 106 (body_values b vs) r → Judging o f (backwards b h) 156 vs g

-- a body was put
pub record BodyPut (b : Body) (t u : List ℕ) : Type 0 where
  pub on : {s : List ℕ} {l : List Bool} {f : Fmt} {vs : List ℕ} → Putting s l (bodied b f) 106 (body_values b vs) t → Putting s l f 156 vs u
