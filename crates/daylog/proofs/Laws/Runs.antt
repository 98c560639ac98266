-- Whatever chunks a log is read in, and whatever the buffers' sizes, the turns of a run write its listing or are refused by 6. Assumes nothing.
use Rattle.std.specs.Prelude.{◌≡◌, ℕ, ◌+◌, ◌%◌, ◌^◌, ◌<◌, ◌≤◌, Bool, true, false, cond, not, List, [], ◌++◌, length, take, drop, ◌==◌, nat_le, refl}
use Rattle.std.proofs.Common.{sym, ap, ◌∙◌, append_assoc, append-nil, arith, length-append, length-take, length-drop, take_at}
use Rattle.format.specs.Message.{ahead}
use Rattle.daylog.specs.Text.{head}
use Rattle.daylog.specs.Records.{Entry, front, records, size_of}
use Rattle.daylog.specs.Log.{after_all, lines, ending_of, listing_from, listing}
use Rattle.daylog.specs.Promises.{room_code, roomed, crowded}
use Rattle.daylog.specs.Turns.{Begins, Out, Gives, closing, is_bad}
use Rattle.daylog.specs.Run.{Reads, Run, stops, goes}
use Rattle.daylog.specs.Laws.Windows.{no_records, none_used}
use Rattle.daylog.proofs.Laws.Windows.{chosen_window, bad_end}
use Rattle.daylog.specs.Laws.Turns.{no, none_there, window, taken, Does, refuses, counts, ends_broken, ends, keeps, does, Kept, breaks, waits, kept_as}
use Rattle.daylog.specs.Turns.{State}
use Rattle.daylog.specs.declared.records.Next.{Next}
use Rattle.daylog.specs.declared.records.Next.TheVariants.{Record, Bad, Short}
use Rattle.daylog.specs.Laws.Runs.{due, held}

-- a text at the front of a buffer is what is written of it
written : (t text : List ℕ) → take (length t) (ahead t text) ≡ t
written t text = take_at t (drop (length t) text) (length t) refl

fits : (text t : List ℕ) → room_code text t ≡ 0 → roomed text t ≡ t
fits text t = go (nat_le (length t) (length text))
  where
    go : (b : Bool) → ◌≡◌ {A = ℕ} (cond b 0 6) 0 → cond b t [] ≡ t
    go true e = refl
    go false e = absurd (omega arith)

is_bad_true : (r : Next) → is_bad r ≡ true → r ≡ Bad
is_bad_true (Record k i) e = no (sym e)
is_bad_true Bad e = refl
is_bad_true Short e = no (sym e)

-- a run that is done has its code, and writes no more
over : {room : ℕ} {t : State} {input rest out : List ℕ} {code : ℕ} → Run room t input rest out code → t.done ≡ true → (code ≡ t.code) × (out ≡ [])
over (stops d) e = (refl, refl)
over (goes chunk d rd l tn run) e = no (sym e ∙ d)

-- ---- the text

due_counting : (t : State) (input rest : List ℕ) → t.done ≡ false → t.broken ≡ true → due t input rest ≡ ending_of t.number (t.left + length rest)
due_counting t input rest d b =
    ap (λ x. cond x [] (cond t.broken (ending_of t.number (t.left + length rest)) (listing_from t.number (take t.waiting input ++ rest)))) d
    ∙ ap (λ x. cond x (ending_of t.number (t.left + length rest)) (listing_from t.number (take t.waiting input ++ rest))) b

due_listing : (t : State) (input rest : List ℕ) → t.done ≡ false → t.broken ≡ false → due t input rest ≡ listing_from t.number (take t.waiting input ++ rest)
due_listing t input rest d b =
    ap (λ x. cond x [] (cond t.broken (ending_of t.number (t.left + length rest)) (listing_from t.number (take t.waiting input ++ rest)))) d
    ∙ ap (λ x. cond x (ending_of t.number (t.left + length rest)) (listing_from t.number (take t.waiting input ++ rest))) b

-- the last turn
closes : {room : ℕ} (t : State) (input text line : List ℕ) {r : State} {kept left rest out : List ℕ} {code : ℕ} → Gives r kept left (closing t input text line)
    → Run room r kept rest out code → code ≡ 0 → take r.made left ++ out ≡ line
closes t input text line {r} {kept} {left} {rest} {out} e run c =
    let k = over run (ap (λ o. o.turn.done) e) in
    let f : roomed text line ≡ line = fits text line (sym (ap (λ o. o.turn.code) e) ∙ sym k.0 ∙ c) in
    let m : r.made ≡ length line = ap (λ o. o.turn.made) e ∙ ap length f in
    let l : left ≡ ahead line text = ap (λ o. o.text) e ∙ ap (λ x. ahead x text) f in
    (λ i. take (m i) (l i) ++ k.1 i) ∙ append-nil (take (length line) (ahead line text)) ∙ written line text

-- one turn of a run
module _ (t r : State) (input filled kept text left rest out chunk : List ℕ) (d : t.done ≡ false) (rd : Reads input t.waiting chunk rest filled) where
  abbrev w : List ℕ
  w = window t filled (length chunk) text

  abbrev es : List Entry
  es = taken t filled (length chunk) text

  abbrev last : List ℕ
  last = drop (size_of es) w

  abbrev done : Out
  done = record { turn = r; input = kept; text = left }

  -- the bytes that wait, the chunk and the rest are the window and the rest
  whole : take t.waiting input ++ (chunk ++ rest) ≡ w ++ rest
  whole = sym (append_assoc (take t.waiting input) chunk rest) ∙ ap (λ l. l ++ rest) (sym rd.holds)

  listed_due : t.broken ≡ false → r.made ≡ length (lines t.number es) → left ≡ ahead (lines t.number es) text
      → out ≡ listing_from (after_all t.number es) (last ++ rest) → take r.made left ++ out ≡ due t input (chunk ++ rest)
  listed_due b m l e =
      (λ i. take (m i) (l i) ++ e i)
      ∙ ap (λ x. x ++ listing_from (after_all t.number es) (last ++ rest)) (written (lines t.number es) text)
      ∙ sym (due_listing t input (chunk ++ rest) d b ∙ ap (listing_from t.number) whole ∙ chosen_window w t.number text rest)

  -- a window is listed, and the rest of it waits or is counted
  keeps_due : t.broken ≡ false → Kept (length (lines t.number es)) (after_all t.number es) last filled (ahead (lines t.number es) text) done
      → out ≡ due r kept rest → take r.made left ++ out ≡ due t input (chunk ++ rest)
  keeps_due b (breaks f e) ih =
      listed_due b (ap (λ o. o.turn.made) e) (ap (λ o. o.text) e)
      (ih
      ∙ ap (λ o. due o.turn kept rest) e
      ∙ ap (ending_of (after_all t.number es)) (sym (length-append last rest))
      ∙ sym (bad_end last (after_all t.number es) (is_bad_true (front last) f) rest))
  keeps_due b (waits f e) ih =
      listed_due b (ap (λ o. o.turn.made) e) (ap (λ o. o.text) e)
      (ih ∙ ap (λ o. due o.turn o.input rest) e ∙ ap (λ x. listing_from (after_all t.number es) (x ++ rest)) (written last filled))

  -- the bytes held do not grow past what there was
  keeps_held : t.broken ≡ false → Kept (length (lines t.number es)) (after_all t.number es) last filled (ahead (lines t.number es) text) done
      → held r + length rest ≤ held t + length (chunk ++ rest)
  keeps_held b k =
      let l : length last ≤ t.waiting + length chunk = simp (length-drop, length-take) (omega arith) in
      let z : held t ≡ t.waiting = ap (λ x. cond x t.left t.waiting) b in
      omega (arith, held_last k, length-append chunk rest)
    where
      held_last : Kept (length (lines t.number es)) (after_all t.number es) last filled (ahead (lines t.number es) text) done → held r ≡ length last
      held_last (breaks f e) = ap (λ o. held o.turn) e
      held_last (waits f e) = ap (λ o. held o.turn) e

  -- the log has ended, and what waits is no record
  ends_due : t.broken ≡ false → length chunk ≡ 0 → t.waiting < length filled → crowded (records w) es ≡ 0 → size_of es ≡ 0
      → ending_of t.number (length w) ≡ due t input (chunk ++ rest)
  ends_due b g h c z =
      let none = none_there (records w) es c (none_used es z) in
      let r = rd.none g (omega (arith, rd.same)) in
      sym
      (due_listing t input (chunk ++ rest) d b
      ∙ ap (listing_from t.number) (whole ∙ ap (λ x. w ++ x) r ∙ append-nil w)
      ∙ no_records w none t.number)

  broken_due : t.broken ≡ true → length chunk ≡ 0 → t.waiting < length filled → ending_of t.number t.left ≡ due t input (chunk ++ rest)
  broken_due b g h =
      let r : length rest ≡ 0 = ap length (rd.none g (omega (arith, rd.same))) in
      let z : t.left ≡ t.left + length (chunk ++ rest) = omega (arith, length-append chunk rest) in
      sym (due_counting t input (chunk ++ rest) d b ∙ ap (ending_of t.number) (sym z))

-- The text that a run writes is what its state has yet to write, where it is not refused. No log has 2 ^ 64 bytes.
pub run_lists : {room : ℕ} {t : State} {input rest out : List ℕ} {code : ℕ} → Run room t input rest out code → code ≡ 0 → held t + length rest < 2 ^ 64
    → out ≡ due t input rest
run_lists (stops {t = t} {input = input} {rest = rest} d) c small =
    sym (ap (λ x. cond x [] (cond t.broken (ending_of t.number (t.left + length rest)) (listing_from t.number (take t.waiting input ++ rest)))) d)
run_lists (goes {t = t} {r = r} {input = input} {filled = filled} {kept = kept} {text = text} {left = left} {rest = rest} {out = out} {code = code} chunk d rd l tn run) c small =
    go (does t filled (length chunk) text d tn.is) (λ h. run_lists run c h)
  where
    go : Does t filled (length chunk) text (record { turn = r; input = kept; text = left }) → (held r + length rest < 2 ^ 64 → out ≡ due r kept rest)
        → take r.made left ++ out ≡ due t input (chunk ++ rest)
    go (refuses x h e) ih = absurd (h (sym (ap (λ o. o.turn.code) e) ∙ sym (over run (ap (λ o. o.turn.done) e)).0 ∙ c))
    go (counts b e) ih =
        let z : held t ≡ t.left = ap (λ x. cond x t.left t.waiting) b in
        let n : (t.left + length chunk) % 2 ^ 64 ≡ t.left + length chunk = omega (arith, small, length-append chunk rest) in
        let m : t.left + length chunk + length rest ≡ t.left + length (chunk ++ rest) = omega (arith, length-append chunk rest) in
        let k : held r ≡ t.left + length chunk = ap (λ o. held o.turn) e ∙ n in
        ap (λ o. take o.turn.made left ++ out) e
        ∙ ih (omega (arith, length-append chunk rest))
        ∙ ap (λ o. due o.turn kept rest) e
        ∙ ap (ending_of t.number) (ap (λ x. x + length rest) n ∙ m)
        ∙ sym (due_counting t input (chunk ++ rest) d b)
    go (ends_broken b g h e) ih = closes t filled text (ending_of t.number t.left) e run c ∙ broken_due t r input filled kept text left rest out chunk d rd b g h
    go (ends b g h f z e) ih =
        closes t filled text (ending_of t.number (length (window t filled (length chunk) text))) e run c ∙ ends_due t r input filled kept text left rest out chunk d rd b g h f z
    go (keeps b f z e) ih =
        let k = kept_as _ _ _ _ _ e in
        keeps_due t r input filled kept text left rest out chunk d rd b k
        (ih (omega (arith, keeps_held t r input filled kept text left rest out chunk d rd b k)))

-- ---- the whole program

-- From the heading on, over a log of any length: what is written is the listing, or the run is refused.
pub program_lists : {room : ℕ} {text left input log out : List ℕ} {t : State} {code : ℕ} → Begins text t left → Run room t input log out code → code ≡ 0
    → length log < 2 ^ 64 → take t.made left ++ out ≡ listing log
unfolding listing
program_lists {text = text} {left = left} {input = input} {log = log} {out = out} {t = t} p run c small = go (nat_le 22 (length text)) refl
  where
    go : (b : Bool) → nat_le 22 (length text) ≡ b → take t.made left ++ out ≡ head ++ listing_from 1 log
    go true e =
        let f : roomed text head ≡ head = ap (λ x. cond x head []) e in
        let m : t.made ≡ 22 = ap (λ s. s.made) p.answer ∙ ap length f in
        let l : left ≡ ahead head text = p.leaves ∙ ap (λ x. ahead x text) f in
        let z : held t ≡ 0 = ap held p.answer in
        let d : t.done ≡ false = ap (λ s. s.done) p.answer ∙ ap (λ x. not (cond x 0 6 == 0)) e in
        let q : out ≡ listing_from 1 log =
        run_lists run c (omega arith)
        ∙ due_listing t input log d (ap (λ s. s.broken) p.answer)
        ∙ ap (λ s. listing_from s.number (take s.waiting input ++ log)) p.answer in
        (λ i. take (m i) (l i) ++ q i) ∙ ap (λ x. x ++ listing_from 1 log) (written head text)
    go false e =
        let d : t.done ≡ true = ap (λ s. s.done) p.answer ∙ ap (λ x. not (cond x 0 6 == 0)) e in
        let k : t.code ≡ 6 = ap (λ s. s.code) p.answer ∙ ap (λ x. cond x 0 6) e in
        absurd (omega (arith, (over run d).0))
