-- Any two answers that a promise of the desk allows are one: the answer, and what is left of all that was lent. By value, and over a lent row of places; of the code's Results, and of what the definitions see of them, which keeps all of a Result. Assumes nothing.
use Rattle.std.specs.Prelude.{◌≡◌, refl, List, ℕ, Result, Ok, Err}
use Rattle.std.proofs.Common.{sym, ap, ◌∙◌}
use Rattle.format.specs.Refusals.{Verdict}
use Rattle.format.specs.declared.Refusal.{Refusal}
use Rattle.format.specs.Laws.Family.{one_reading}
use Rattle.format.specs.Laws.Outcomes.{one_refusal}
use Rattle.places.specs.Desk.{refusal_of}
use Rattle.places.specs.Places.{place_at}
use Rattle.places.specs.Promises.{Accepts, Asks, Drops, AcceptTurn, AskTurn, DropTurn}
use Rattle.places.specs.declared.Place.{Place}
use Rattle.places.specs.declared.Reply.{Reply as Declared}
use Rattle.places.specs.declared.Reply.TheVariants as code
use Rattle.places.specs.declared.Turn.{Turn as DeclaredTurn}
use Rattle.places.specs.Replies.{Reply, Turn, Done, Again, Joined, Missing, Refused, said, replied, turned}

-- ---- what the definitions see of an answer keeps all of it

unsaid : Reply → Declared
unsaid Done = code.Done
unsaid Again = code.Again
unsaid (Joined n l) = code.Joined n l
unsaid (Missing n) = code.Missing n
unsaid (Refused v) = code.Done

said_back : (a : Declared) → unsaid (said a) ≡ a
unfolding unsaid
said_back code.Done = refl
said_back code.Again = refl
said_back (code.Joined n l) = refl
said_back (code.Missing n) = refl

pub one_said : (a b : Declared) → said a ≡ said b → a ≡ b
one_said a b e = sym (said_back a) ∙ ap unsaid e ∙ said_back b

-- no reply is seen as a refusal
not_refused : (a : Declared) (v : Verdict) → said a ≡ Refused v → ⊥
not_refused code.Done v e = cc
not_refused code.Again v e = cc
not_refused (code.Joined n l) v e = cc
not_refused (code.Missing n) v e = cc

pub one_replied : (x y : Result Declared Refusal) → replied x ≡ replied y → x ≡ y
one_replied (Ok a) (Ok b) e = ap Ok (one_said a b e)
one_replied (Ok a) (Err g) e = absurd (not_refused a _ e)
one_replied (Err f) (Ok b) e = absurd (not_refused b _ (sym e))
one_replied (Err f) (Err g) e = ap Err (one_refusal f g (ap refusal_of e))

pub one_turned : (p : Place) (x y : Result DeclaredTurn Refusal) → turned p x ≡ turned p y → x ≡ y
one_turned p (Ok t) (Ok u) e =
    let reply = one_said t.reply u.reply (ap (λ (r : Turn). r.reply) e) in
    λ i. Ok (record { at = (e i).at; place = (e i).place; reply = reply i })
one_turned p (Ok t) (Err g) e = absurd (not_refused t.reply _ (ap (λ (r : Turn). r.reply) e))
one_turned p (Err f) (Ok u) e = absurd (not_refused u.reply _ (sym (ap (λ (r : Turn). r.reply) e)))
one_turned p (Err f) (Err g) e = ap Err (one_refusal f g (ap (λ (r : Turn). refusal_of r.reply) e))

module _ (ps : List Place) (s : List ℕ) where
  -- ---- by value: what is seen of two answers

  pub one_accepting_seen : (m : List ℕ) (r r' : Turn) (t t' : List ℕ) → AcceptTurn ps s m r t → AcceptTurn ps s m r' t' → (r ≡ r') × (t ≡ t')
  one_accepting_seen m r r' t t' x y = (one_reading _ r r' x.0 y.0, one_reading _ t t' x.2 y.2)

  pub one_asking_seen : (n : ℕ) (b w : List ℕ) (r r' : Turn) (c c' v v' : List ℕ) → AskTurn ps s n b w r c v → AskTurn ps s n b w r' c' v' → (r ≡ r') × (c ≡ c') × (v ≡ v')
  one_asking_seen n b w r r' c c' v v' x y = (one_reading _ r r' x.0 y.0, one_reading _ c c' x.2 y.2, one_reading _ v v' x.3 y.3)

  pub one_dropping_seen : (n : ℕ) (r r' : Turn) → DropTurn ps s n r → DropTurn ps s n r' → r ≡ r'
  one_dropping_seen n r r' x y = one_reading _ r r' x.0 y.0

  -- the answers themselves

  pub one_accepting : (m : List ℕ) (r r' : Result DeclaredTurn Refusal) (t t' : List ℕ) → AcceptTurn ps s m (turned (place_at ps 0) r) t → AcceptTurn ps s m (turned (place_at ps 0) r') t' → (r ≡ r') × (t ≡ t')
  one_accepting m r r' t t' x y = let (turn, store) = one_accepting_seen m _ _ t t' x y in (one_turned _ r r' turn, store)

  pub one_asking : (n : ℕ) (b w : List ℕ) (r r' : Result DeclaredTurn Refusal) (c c' v v' : List ℕ) → AskTurn ps s n b w (turned (place_at ps 0) r) c v → AskTurn ps s n b w (turned (place_at ps 0) r') c' v' → (r ≡ r') × (c ≡ c') × (v ≡ v')
  one_asking n b w r r' c c' v v' x y = let (turn, buffer, row) = one_asking_seen n b w _ _ c c' v v' x y in (one_turned _ r r' turn, buffer, row)

  pub one_dropping : (n : ℕ) (r r' : Result DeclaredTurn Refusal) → DropTurn ps s n (turned (place_at ps 0) r) → DropTurn ps s n (turned (place_at ps 0) r') → r ≡ r'
  one_dropping n r r' x y = one_turned _ r r' (one_dropping_seen n _ _ x y)

  -- ---- over a lent row: what is seen of two answers

  pub one_accepting_row_seen : (m : List ℕ) (a a' : Reply) (qs qs' : List Place) (t t' : List ℕ) → Accepts ps s m a qs t → Accepts ps s m a' qs' t' → (a ≡ a') × (qs ≡ qs') × (t ≡ t')
  one_accepting_row_seen m a a' qs qs' t t' x y = (one_reading _ a a' x.0 y.0, one_reading _ qs qs' x.1 y.1, one_reading _ t t' x.2 y.2)

  pub one_asking_row_seen : (n : ℕ) (b w : List ℕ) (a a' : Reply) (qs qs' : List Place) (c c' v v' : List ℕ) → Asks ps s n b w a qs c v → Asks ps s n b w a' qs' c' v' → (a ≡ a') × (qs ≡ qs') × (c ≡ c') × (v ≡ v')
  one_asking_row_seen n b w a a' qs qs' c c' v v' x y = (one_reading _ a a' x.0 y.0, one_reading _ qs qs' x.1 y.1, one_reading _ c c' x.2 y.2, one_reading _ v v' x.3 y.3)

  pub one_dropping_row_seen : (n : ℕ) (a a' : Reply) (qs qs' : List Place) → Drops ps s n a qs → Drops ps s n a' qs' → (a ≡ a') × (qs ≡ qs')
  one_dropping_row_seen n a a' qs qs' x y = (one_reading _ a a' x.0 y.0, one_reading _ qs qs' x.1 y.1)

  -- the answers themselves

  pub one_accepting_row : (m : List ℕ) (a a' : Result Declared Refusal) (qs qs' : List Place) (t t' : List ℕ) → Accepts ps s m (replied a) qs t → Accepts ps s m (replied a') qs' t' → (a ≡ a') × (qs ≡ qs') × (t ≡ t')
  one_accepting_row m a a' qs qs' t t' x y = let (reply, places, store) = one_accepting_row_seen m _ _ qs qs' t t' x y in (one_replied a a' reply, places, store)

  pub one_asking_row : (n : ℕ) (b w : List ℕ) (a a' : Result Declared Refusal) (qs qs' : List Place) (c c' v v' : List ℕ) → Asks ps s n b w (replied a) qs c v → Asks ps s n b w (replied a') qs' c' v' → (a ≡ a') × (qs ≡ qs') × (c ≡ c') × (v ≡ v')
  one_asking_row n b w a a' qs qs' c c' v v' x y = let (reply, places, buffer, row) = one_asking_row_seen n b w _ _ qs qs' c c' v v' x y in (one_replied a a' reply, places, buffer, row)

  pub one_dropping_row : (n : ℕ) (a a' : Result Declared Refusal) (qs qs' : List Place) → Drops ps s n (replied a) qs → Drops ps s n (replied a') qs' → (a ≡ a') × (qs ≡ qs')
  one_dropping_row n a a' qs qs' x y = let (reply, places) = one_dropping_row_seen n _ _ qs qs' x y in (one_replied a a' reply, places)
