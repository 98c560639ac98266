-- With room for any record and any line, no turn of a run is refused: some of the input is always free to read into. Assumes nothing.
use Rattle.std.specs.Prelude.{◌≡◌, ℕ, zero, suc, ◌+◌, ◌<◌, ◌≤◌, false, cond, List, [], length, drop, ◌≢◌, refl}
use Rattle.std.proofs.Common.{ap, ◌∙◌, arith, length-append, length-take, length-drop, le-leb}
use Rattle.format.specs.Message.{ahead}
use Rattle.daylog.specs.Records.{front, records, size_of}
use Rattle.daylog.specs.Log.{after_all, lines}
use Rattle.daylog.specs.Promises.{crowded}
use Rattle.daylog.specs.Turns.{Begins, is_bad, Turns}
use Rattle.daylog.specs.Run.{Run, stops, goes}
use Rattle.daylog.specs.Laws.Records.{short_few}
use Rattle.daylog.specs.Laws.Windows.{records_next, none_used, chosen_within}
use Rattle.daylog.specs.Laws.Turns.{no, none_there, window, taken, Does, refuses, counts, ends_broken, ends, keeps, does, Kept, breaks, waits, kept_as}
use Rattle.daylog.specs.Turns.{State}
use Rattle.daylog.specs.declared.records.Next.{Next}
use Rattle.daylog.specs.declared.records.Next.TheVariants.{Record, Bad, Short}

-- where there is room for any record and any line, the bytes that wait leave room to read into, as they did before
module _ (t r : State) (filled kept text left : List ℕ) (got : ℕ) (big : 256 ≤ length filled) (free : t.waiting < length filled) where
  short_waits : crowded (records (window t filled got text)) (taken t filled got text) ≡ 0 → (size_of (taken t filled got text) + got ≢ 0)
      → is_bad (front (drop (size_of (taken t filled got text)) (window t filled got text))) ≡ false
      → length (drop (size_of (taken t filled got text)) (window t filled got text)) < length filled
  short_waits c z f = go (size_of (taken t filled got text)) refl
    where
      w : List ℕ
      w = window t filled got text

      few : (x : Next) → front w ≡ x → is_bad x ≡ false → records w ≡ [] → length w < 256
      few (Record k i) e b n = let z : ◌≡◌ {A = ℕ} 0 1 = cc (records_next w k i e, n) in absurd (omega arith)
      few Bad e b n = no b
      few Short e b n = short_few w e

      go : (u : ℕ) → size_of (taken t filled got text) ≡ u → length (drop (size_of (taken t filled got text)) w) < length filled
      go zero e =
          let es = none_used (taken t filled got text) e in
          let l = few (front w) refl (rw e at f) (none_there (records w) (taken t filled got text) c es) in
          rw e (omega arith)
      go (suc u) e = simp (length-drop, length-take) (omega (arith, chosen_within w t.number text))

  pub still_free : t.done ≡ false → Turns t filled got text r kept left → (r.waiting < length kept) × (length kept ≡ length filled)
  still_free d tn = go (does t filled got text d tn.is)
    where
      go : Does t filled got text (record { turn = r; input = kept; text = left }) → (r.waiting < length kept) × (length kept ≡ length filled)
      go (refuses x h e) = let k = ap (λ o. length o.input) e in (omega (arith, ap (λ o. o.turn.waiting) e), k)
      go (counts b e) = let k = ap (λ o. length o.input) e in (omega (arith, ap (λ o. o.turn.waiting) e), k)
      go (ends_broken b g h e) = let k = ap (λ o. length o.input) e in (omega (arith, ap (λ o. o.turn.waiting) e), k)
      go (ends b g h f z e) = let k = ap (λ o. length o.input) e in (omega (arith, ap (λ o. o.turn.waiting) e), k)
      go (keeps b c z e) = waited (kept_as _ _ _ _ _ e)
        where
          waited : Kept (length (lines t.number (taken t filled got text))) (after_all t.number (taken t filled got text))
              (drop (size_of (taken t filled got text)) (window t filled got text)) filled (ahead (lines t.number (taken t filled got text)) text)
              (record { turn = r; input = kept; text = left })
              → (r.waiting < length kept) × (length kept ≡ length filled)
          waited (breaks f x) = let k = ap (λ o. length o.input) x in (omega (arith, ap (λ o. o.turn.waiting) x), k)
          waited (waits f x) =
              let last = drop (size_of (taken t filled got text)) (window t filled got text) in
              let l = short_waits c z f in
              let k : length kept ≡ length filled = ap (λ o. length o.input) x ∙ length-append last (drop (length last) filled) ∙ omega (arith, length-drop (length last) filled) in
              (omega (arith, ap (λ o. o.turn.waiting) x), k)

-- Where there is room for any record and any line, a run is never refused.
pub run_through : {room : ℕ} {t : State} {input rest out : List ℕ} {code : ℕ} → Run room t input rest out code → 76 ≤ room → 256 ≤ length input
    → t.waiting < length input → t.code ≡ 0 → code ≡ 0
run_through (stops d) h big free c = c
run_through (goes {t = t} {r = r} {filled = filled} {kept = kept} {text = text} {left = left} chunk d rd l tn run) h big free c =
    let f : t.waiting < length filled = omega (arith, rd.same) in
    let k = still_free t r filled kept text left (length chunk) (omega (arith, rd.same)) f d tn in
    run_through run h (omega (arith, k.1, rd.same)) k.0 (tn.enough d (omega arith) f (omega (arith, rd.within, rd.same)))

-- So the whole program is never refused.
pub program_through : {text left input log out : List ℕ} {t : State} {code : ℕ} → Begins text t left → Run (length text) t input log out code
    → 76 ≤ length text → 256 ≤ length input → code ≡ 0
program_through {text = text} p run h big =
    let w = ap (λ s. s.waiting) p.answer in
    run_through run h big (omega arith) (ap (λ s. s.code) p.answer ∙ ap (λ x. cond x 0 6) (le-leb 22 (length text) (omega arith)))
