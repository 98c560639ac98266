-- What the steps of a turn promise makes up what the turn does. Assumes nothing.
use Rattle.std.proofs.Common.{◌≡◌, ℕ, zero, suc, ◌+◌, ◌-◌, ◌^◌, ◌<◌, ◌≤◌, Bool, true, false, not, eqb, List, [], length, take, drop, sym, refl, ap, ◌∙◌, arith, lit<, length-take-le, take-add, drop_at, le-ltb, lt-ltb, eq-eqb, ne_eqb, le-leb}
use Rattle.format.specs.Message.{ahead}
use Rattle.format.specs.Refusals.{bare}
use Rattle.daylog.specs.LinesText.{line}
use Rattle.daylog.specs.Text.{broken}
use Rattle.daylog.specs.Records.{Entry, front, records, size_of}
use Rattle.daylog.specs.Log.{lines, ending_of}
use Rattle.daylog.specs.Promises.{room_code, chosen, crowded, Lists, Ends, Heads, Keeps}
use Rattle.daylog.specs.Turns.{Begins, Gives, stopped, on, ending, is_bad, keeping, listing_of}
use Rattle.daylog.specs.Laws.Text.{line_most}
use Rattle.daylog.specs.Laws.Windows.{none_used}
use Rattle.daylog.specs.Laws.Turns.{none_listed}
use Rattle.daylog.specs.Promises.{Laid}
use Rattle.daylog.specs.Promises.{Listed}
use Rattle.daylog.specs.Turns.{State}

pub began : {text left : List ℕ} {h : Laid} → Heads text h left
    → Begins text (record { made = h.bytes; done = not (eqb h.code 0); code = h.code; number = 1; waiting = 0; broken = false; left = 0 }) left
began p = record {
  answer = λ i. record { made = p.text.count i; done = not (eqb (p.code i) 0); code = p.code i; number = 1; waiting = 0; broken = false; left = 0 };
  leaves = p.text.leaves;
}

-- ---- the end of the log

module _ (t : State) (left : ℕ) (input : List ℕ) {text : List ℕ} {r : State} where
  pub closed : {l : Laid} {after : List ℕ} → t.waiting < length input → Ends text t.number left l after → r ≡ stopped t l.code l.bytes
      → Gives r input after (ending t left input text)
  closed h p e =
      rw (lt-ltb t.waiting (length input) h)
      (λ i. record { turn = (e ∙ (λ j. stopped t (p.code j) (p.text.count j))) i; input = input; text = p.text.leaves i })

  pub shut : length input ≤ t.waiting → r ≡ stopped t 6 0 → Gives r input text (ending t left input text)
  shut h e = rw (le-ltb t.waiting (length input) h) (λ i. record { turn = e i; input = input; text = text })

-- 76 bytes are room for the last line
pub last_roomed : (n left : ℕ) (text : List ℕ) → n < 2 ^ 64 → left < 2 ^ 64 → 76 ≤ length text → room_code text (ending_of n left) ≡ 0
last_roomed n zero text a b h = rw (le-leb 0 (length text) (omega arith))
last_roomed n (suc left) text a b h = rw (le-leb (length (line n broken (bare 1) (suc left))) (length text) (omega (arith, line_most n broken (bare 1) (suc left) a (lit< tt) (lit< tt) b)))

-- ---- a window

-- what a window has left
pub rest_is : (s : List ℕ) (used have : ℕ) → used ≤ have → have ≤ length s → take (have - used) (drop used s) ≡ drop used (take have s)
rest_is s used have h k =
    let e : have ≡ used + (have - used) = omega arith in
    sym
    (ap (λ n. drop used (take n s)) e
    ∙ ap (drop used) (take-add used (have - used) s)
    ∙ drop_at (take used s) (take (have - used) (drop used s)) used (length-take-le used s (omega arith)))

pub kept : {s left : List ℕ} {a e : ℕ} {r : Laid} → Keeps s a e r left → a ≤ e → e ≤ length s
    → (r.bytes ≡ length (drop a (take e s))) × (left ≡ ahead (drop a (take e s)) s)
kept {s} {left} {a} {e} {r} p h k =
    let x = rest_is s a e h k in
    let q = rw (le-leb e (length s) k, le-leb a e h, x) at p.kept in
    (q.count, q.leaves)

-- reading on is no refusal
pub keeps_code : (made n : ℕ) (rest input text : List ℕ) {r : State} {left : List ℕ} → Gives r left text (keeping made n rest input text) → r.code ≡ 0
keeps_code made n rest input text {r} {left} p = go (is_bad (front rest)) refl
  where
    go : (b : Bool) → is_bad (front rest) ≡ b → r.code ≡ 0
    go true e =
        let q : Gives r left text (record { turn = on made n 0 true (length rest); input = input; text = text }) = p ∙ rw e in
        ap (λ o. o.turn.code) q
    go false e =
        let q : Gives r left text (record { turn = on made n (length rest) false 0; input = ahead rest input; text = text }) = p ∙ rw e in
        ap (λ o. o.turn.code) q

module _ (t : State) (w input : List ℕ) (got : ℕ) {text left : List ℕ} {l : Listed} (p : Lists w t.number text l left) where
  abbrev es : List Entry
  es = chosen w t.number text

  -- nothing listed: the text is as it was
  as_was : es ≡ [] → left ≡ text
  unfolding lines
  as_was e = p.text.leaves ∙ rw e

  pub crammed : {r : State} → (l.code ≡ 0 → ⊥) → r ≡ stopped t l.code 0 → Gives r input left (listing_of t w input got text)
  crammed h e =
      let k : crowded (records w) es ≡ 0 → ⊥ = λ z. h (p.code ∙ z) in
      let q = as_was (none_listed (records w) es k) in
      rw (ne_eqb (crowded (records w) es) 0 k) (λ i. record { turn = (e ∙ ap (λ c. stopped t c 0) p.code) i; input = input; text = q i })

  pub ends : {r : State} → l.code ≡ 0 → l.used + got ≡ 0 → {after : List ℕ} → Gives r input after (ending t (length w) input left) → Gives r input after (listing_of t w input got text)
  ends c u g =
      let z : size_of es + got ≡ 0 = ap (λ k. k + got) (sym p.used) ∙ u in
      let q = as_was (none_used es (omega arith)) in
      rw (eq-eqb (crowded (records w) es) 0 (sym p.code ∙ c), eq-eqb (size_of es + got) 0 z) (rw q at g)

  pub goes : {r : State} → l.code ≡ 0 → (l.used + got ≡ 0 → ⊥) → {after : List ℕ} → Gives r after left (keeping l.made l.number (drop l.used w) input left)
      → Gives r after left (listing_of t w input got text)
  goes c u g =
      let z : size_of es + got ≡ 0 → ⊥ = λ k. u (ap (λ m. m + got) p.used ∙ k) in
      rw (eq-eqb (crowded (records w) es) 0 (sym p.code ∙ c), ne_eqb (size_of es + got) 0 z)
      (g ∙ (λ i. keeping (p.text.count i) (p.number i) (drop (p.used i) w) input (p.text.leaves i)))
