-- Any two answers that a promise of the desk over lent bytes allows are one: the refusal, and what is left of all that was lent. Assumes nothing.
use Rattle.std.specs.Prelude.{◌≡◌, List, ℕ}
use Rattle.format.specs.Refusals.{Verdict}
use Rattle.format.specs.Laws.Family.{one_reading}
use Rattle.desk_bytes.specs.Promises.{AcceptsIn, AsksIn, DropsIn}

module _ (bs s : List ℕ) where
  pub one_accepting : (m : List ℕ) (again : ℕ) (code code' : Verdict) (cs cs' t t' : List ℕ) (x x' : ℕ) → AcceptsIn bs s m again code cs t x → AcceptsIn bs s m again code' cs' t' x'
      → (code ≡ code') × (cs ≡ cs') × (t ≡ t') × (x ≡ x')
  one_accepting m again code code' cs cs' t t' x x' p q = (
    one_reading _ code code' p.0 q.0,
    one_reading _ cs cs' p.1 q.1,
    one_reading _ t t' p.2 q.2,
    one_reading _ x x' p.3 q.3,
  )

  pub one_asking : (n : ℕ) (b w : List ℕ) (count language : ℕ) (code code' : Verdict) (cs cs' c c' v v' : List ℕ) (x x' y y' : ℕ) → AsksIn bs s n b w count language code cs c v x y → AsksIn bs s n b w count language code' cs' c' v' x' y'
      → (code ≡ code') × (cs ≡ cs') × (c ≡ c') × (v ≡ v') × (x ≡ x') × (y ≡ y')
  one_asking n b w count language code code' cs cs' c c' v v' x x' y y' p q = (
    one_reading _ code code' p.0 q.0,
    one_reading _ cs cs' p.1 q.1,
    one_reading _ c c' p.2 q.2,
    one_reading _ v v' p.3 q.3,
    one_reading _ x x' p.4 q.4,
    one_reading _ y y' p.5 q.5,
  )

  pub one_dropping : (n : ℕ) (code code' : Verdict) (cs cs' : List ℕ) → DropsIn bs s n code cs → DropsIn bs s n code' cs' → (code ≡ code') × (cs ≡ cs')
  one_dropping n code code' cs cs' p q = (one_reading _ code code' p.0 q.0, one_reading _ cs cs' p.1 q.1)
