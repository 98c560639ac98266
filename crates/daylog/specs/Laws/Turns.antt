-- What a turn does, case by case, from its definition. Assumes nothing.
use Rattle.std.specs.Prelude.{◌≡◌, ℕ, ◌+◌, ◌%◌, ◌^◌, ◌<◌, ◌≤◌, Bool, true, false, cond, List, [], ◌∷◌, length, take, drop, ◌==◌, ◌≢◌, nat_le, nat_lt, refl}
use Rattle.std.proofs.Math.Path.{ap}
use Rattle.std.proofs.Common.{◌∙◌, arith, length-append, ltb-true, eqb-true}
use Rattle.std.proofs.lemmas.Bool.{eqb-false}
use Rattle.format.specs.Message.{ahead}
use Rattle.daylog.specs.Text.{head}
use Rattle.daylog.specs.Records.{Entry, front, records, size_of}
use Rattle.daylog.specs.Log.{after_all, lines, ending_of}
use Rattle.daylog.specs.Promises.{chosen, crowded, roomed}
use Rattle.daylog.specs.Turns.{Begins, Out, Gives, on, refusing, closing, ending, counting, is_bad, keeping, listing_of, windowing, turned, Turns}
use Rattle.daylog.specs.Turns.{State}

pub no : {A : Type 0} → true ≡ false → A
no e = let z : ◌≡◌ {A = ℕ} 0 1 = cc in absurd (omega arith)

-- where nothing is listed for want of records, there are none
pub none_there : (all es : List Entry) → crowded all es ≡ 0 → es ≡ [] → all ≡ []
none_there [] es c e = refl
none_there (d ∷ all) [] c e = absurd (omega arith)
none_there (d ∷ all) (x ∷ es) c e = let z : ◌≡◌ {A = ℕ} 0 1 = cc in absurd (omega arith)

-- where records are refused, none is listed
pub none_listed : (all es : List Entry) → (crowded all es ≢ 0) → es ≡ []
none_listed [] es h = absurd (h refl)
none_listed (e ∷ all) [] h = refl
none_listed (e ∷ all) (d ∷ es) h = absurd (h refl)

-- ---- the way of a turn

module _ (t : State) (input : List ℕ) (got : ℕ) (text : List ℕ) where
  abbrev going : Bool → Out
  going b = cond b (counting t input got text) (windowing t input got text)

  abbrev way : Bool → Out
  way b = cond b (refusing t input text t.code) (going t.broken)

  pub turned_done : t.done ≡ true → turned t input got text ≡ refusing t input text t.code
  unfolding turned
  turned_done d = ap way d

  pub turned_broken : t.done ≡ false → t.broken ≡ true → turned t input got text ≡ counting t input got text
  unfolding turned
  turned_broken d b = ap way d ∙ ap going b

  pub turned_listing : t.done ≡ false → t.broken ≡ false → turned t input got text ≡ windowing t input got text
  unfolding turned
  turned_listing d b = ap way d ∙ ap going b

-- ---- what it comes to

module _ (t : State) (input : List ℕ) (got : ℕ) (text : List ℕ) where
  -- the window, and its records that are listed
  abbrev pub window : List ℕ
  window = take (t.waiting + got) input

  abbrev pub taken : List Entry
  taken = chosen window t.number text

  pub data Does (o : Out) : Type 0 where
    refuses : (code : ℕ) → (code ≢ 0) → o ≡ refusing t input text code → Does o
    counts : t.broken ≡ true → o ≡ (record { turn = on 0 t.number t.waiting true ((t.left + got) % 2 ^ 64); input = input; text = text }) → Does o
    ends_broken : t.broken ≡ true → got ≡ 0 → t.waiting < length input → o ≡ closing t input text (ending_of t.number t.left) → Does o
    ends : t.broken ≡ false → got ≡ 0 → t.waiting < length input → crowded (records window) taken ≡ 0 → size_of taken ≡ 0
        → o ≡ closing t input text (ending_of t.number (length window)) → Does o
    keeps : t.broken ≡ false → crowded (records window) taken ≡ 0 → (size_of taken + got ≢ 0)
        → o ≡ keeping (length (lines t.number taken)) (after_all t.number taken) (drop (size_of taken) window) input (ahead (lines t.number taken) text)
        → Does o

  ended : {o : Out} (left : ℕ) → o ≡ ending t left input text → (t.waiting < length input → o ≡ closing t input text (ending_of t.number left) → Does o) → Does o
  ended {o} left e k = go (nat_lt t.waiting (length input)) refl
    where
      go : (b : Bool) → nat_lt t.waiting (length input) ≡ b → Does o
      go true f = k (ltb-true t.waiting (length input) f) (e ∙ ap (λ b. cond b (closing t input text (ending_of t.number left)) (refusing t input text 6)) f)
      go false f =
          refuses 6 (λ z. omega arith)
          (e ∙ ap (λ b. cond b (closing t input text (ending_of t.number left)) (refusing t input text 6)) f)

  does_count : {o : Out} → t.broken ≡ true → o ≡ counting t input got text → Does o
  does_count {o} b e = go (got == 0) refl
    where
      more : Out
      more = record { turn = on 0 t.number t.waiting true ((t.left + got) % 2 ^ 64); input = input; text = text }

      go : (x : Bool) → (got == 0) ≡ x → Does o
      go true f = ended t.left (e ∙ ap (λ x. cond x (ending t t.left input text) more) f) (ends_broken b (eqb-true got 0 f))
      go false f = counts b (e ∙ ap (λ x. cond x (ending t t.left input text) more) f)

  does_list : {o : Out} → t.broken ≡ false → o ≡ listing_of t window input got text → Does o
  does_list {o} b e = go (crowded (records window) taken == 0) refl (size_of taken + got == 0) refl
    where
      kept : Out
      kept = keeping (length (lines t.number taken)) (after_all t.number taken) (drop (size_of taken) window) input (ahead (lines t.number taken) text)

      inner : Bool → Out
      inner y = cond y (ending t (length window) input text) kept

      outer : Bool → Out
      outer x = cond x (inner (size_of taken + got == 0)) (refusing t input text (crowded (records window) taken))

      go : (x : Bool) → (crowded (records window) taken == 0) ≡ x → (y : Bool) → (size_of taken + got == 0) ≡ y → Does o
      go false f y g = refuses (crowded (records window) taken) (eqb-false (crowded (records window) taken) 0 f) (e ∙ ap outer f)
      go true f true g =
          let z = eqb-true (size_of taken + got) 0 g in
          ended (length window) (e ∙ ap outer f ∙ ap inner g)
          (λ w. ends b (omega arith) w (eqb-true (crowded (records window) taken) 0 f) (omega arith))
      go true f false g = keeps b (eqb-true (crowded (records window) taken) 0 f) (eqb-false (size_of taken + got) 0 g) (e ∙ ap outer f ∙ ap inner g)

  does_window : {o : Out} → t.broken ≡ false → o ≡ windowing t input got text → Does o
  does_window {o} b e = go (nat_le (t.waiting + got) (length input)) refl
    where
      go : (x : Bool) → nat_le (t.waiting + got) (length input) ≡ x → Does o
      go true f = does_list b (e ∙ ap (λ x. cond x (listing_of t window input got text) (refusing t input text 6)) f)
      go false f = refuses 6 (λ z. omega arith) (e ∙ ap (λ x. cond x (listing_of t window input got text) (refusing t input text 6)) f)

  pub does : {o : Out} → t.done ≡ false → o ≡ turned t input got text → Does o
  does {o} d e = go t.broken refl
    where
      go : (b : Bool) → t.broken ≡ b → Does o
      go true b = does_count b (e ∙ turned_broken t input got text d b)
      go false b = does_window b (e ∙ turned_listing t input got text d b)

-- a window is kept whole, or a broken record begins in it
pub data Kept (made n : ℕ) (rest input text : List ℕ) (o : Out) : Type 0 where
  breaks : is_bad (front rest) ≡ true → o ≡ (record { turn = on made n 0 true (length rest); input = input; text = text }) → Kept made n rest input text o
  waits : is_bad (front rest) ≡ false → o ≡ (record { turn = on made n (length rest) false 0; input = ahead rest input; text = text }) → Kept made n rest input text o

pub kept_as : (made n : ℕ) (rest input text : List ℕ) {o : Out} → o ≡ keeping made n rest input text → Kept made n rest input text o
kept_as made n rest input text {o} e = go (is_bad (front rest)) refl
  where
    bad : Out
    bad = record { turn = on made n 0 true (length rest); input = input; text = text }

    good : Out
    good = record { turn = on made n (length rest) false 0; input = ahead rest input; text = text }

    go : (b : Bool) → is_bad (front rest) ≡ b → Kept made n rest input text o
    go true f = breaks f (e ∙ ap (λ b. cond b bad good) f)
    go false f = waits f (e ∙ ap (λ b. cond b bad good) f)

-- ---- what the program carries

-- a text at the front of a buffer that keeps its length lies within it
front_within : (t text left : List ℕ) → left ≡ ahead t text → length left ≡ length text → length t ≤ length text
front_within t text left e l = omega (arith, l, ap length e ∙ length-append t (drop (length t) text))

pub begin_within : {text left : List ℕ} {r : State} → Begins text r left → length left ≡ length text → (r.made ≤ length text) × (r.waiting ≡ 0)
begin_within {text} {left} p l = (omega (arith, ap (λ s. s.made) p.answer, front_within (roomed text head) text left p.leaves l), ap (λ s. s.waiting) p.answer)

-- the text to write lies within its buffer, and the bytes that wait lie within theirs
pub turn_within : {t r : State} {input kept text left : List ℕ} {got : ℕ} → Turns t input got text r kept left → t.done ≡ false → t.waiting ≤ length input
    → length kept ≡ length input → length left ≡ length text → (r.made ≤ length text) × (r.waiting ≤ length input)
turn_within {t} {r} {input} {kept} {text} {left} {got} p d w k l = go (does t input got text d p.is)
  where
    closed : (line : List ℕ) → Gives r kept left (closing t input text line) → (r.made ≤ length text) × (r.waiting ≤ length input)
    closed line e = (
      omega (arith, ap (λ o. o.turn.made) e, front_within (roomed text line) text left (ap (λ o. o.text) e) l),
      omega (arith, ap (λ o. o.turn.waiting) e),
    )

    on_within : (listed : List ℕ) {made n : ℕ} {rest : List ℕ} → made ≡ length listed → Kept made n rest input (ahead listed text) (record { turn = r; input = kept; text = left })
        → (r.made ≤ length text) × (r.waiting ≤ length input)
    on_within listed m (breaks f e) = (
      omega (arith, ap (λ o. o.turn.made) e, front_within listed text left (ap (λ o. o.text) e) l),
      omega (arith, ap (λ o. o.turn.waiting) e),
    )
    on_within listed {rest = rest} m (waits f e) = (
      omega (arith, ap (λ o. o.turn.made) e, front_within listed text left (ap (λ o. o.text) e) l),
      omega (arith, ap (λ o. o.turn.waiting) e, front_within rest input kept (ap (λ o. o.input) e) k),
    )

    go : Does t input got text (record { turn = r; input = kept; text = left }) → (r.made ≤ length text) × (r.waiting ≤ length input)
    go (refuses x h e) = (omega (arith, ap (λ o. o.turn.made) e), omega (arith, ap (λ o. o.turn.waiting) e))
    go (counts b e) = (omega (arith, ap (λ o. o.turn.made) e), omega (arith, ap (λ o. o.turn.waiting) e))
    go (ends_broken b g h e) = closed (ending_of t.number t.left) e
    go (ends b g h f z e) = closed (ending_of t.number (length (window t input got text))) e
    go (keeps b f z e) = on_within (lines t.number (taken t input got text)) refl (kept_as _ _ _ _ _ e)
