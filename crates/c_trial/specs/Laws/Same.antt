-- A promise about a content is one about any content equal to it. Assumes nothing.
use Rattle.std.specs.Prelude.{◌≡◌, List, ℕ, length}
use Rattle.std.proofs.Common.{◌∙◌, ap}
use Rattle.places.specs.Desk.{laid_within}
use Rattle.c_trial.specs.Promises.{Copies}

pub copies_same : (b : List ℕ) {c d e : List ℕ} {n : ℕ} → c ≡ d → Copies c b n e → Copies d b n e
copies_same b same is = (is.0 ∙ ap length same, is.1 ∙ ap (laid_within b 0) same)
