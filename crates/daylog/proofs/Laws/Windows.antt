-- However a log is cut into windows, the texts made one after the other are its listing. Assumes nothing.
use Rattle.std.specs.Prelude.{◌≡◌, ℕ, ◌+◌, List, ◌++◌, length, take, drop, refl}
use Rattle.std.proofs.Common.{sym, ap, ◌∙◌, append_assoc, arith, length-drop, drop-drop}
use Rattle.std.proofs.lemmas.List.{take-append-le, drop-append-le}
use Rattle.daylog.specs.Records.{Entry, front, opened, records, size_of}
use Rattle.daylog.specs.Kinds.{entry_line}
use Rattle.daylog.specs.Log.{after, after_all, lines, ending_of, listing_from}
use Rattle.daylog.specs.Promises.{chosen}
use Rattle.daylog.specs.Laws.Records.{front_size, front_stays, records_open}
use Rattle.daylog.specs.declared.records.Next.TheVariants.{Record, Bad}
use Rattle.daylog.specs.Laws.Windows.{entry_at, body_size, no_records, one_record, Begins, none, one, begins}

-- with more bytes behind, the record is the same
more : (s t : List ℕ) (k m n : ℕ) → front s ≡ Record k m
    → listing_from n (s ++ t) ≡ entry_line n (entry_at s k m) ++ listing_from (after n) (drop (4 + m) s ++ t)
more s t k m n e =
    let l = (front_size s k m e).0 in
    let f : front (s ++ t) ≡ Record k m = front_stays s t (λ x. let z : ◌≡◌ {A = ℕ} 0 1 = cc in absurd (omega arith)) ∙ e in
    let b : take m (drop 4 (s ++ t)) ≡ take m (drop 4 s) = ap (take m) (drop-append-le 4 s t (omega arith)) ∙ take-append-le m (drop 4 s) t (simp length-drop (omega arith)) in
    one_record (s ++ t) k m n f
    ∙ ap (λ x. entry_line n (record { kind = k; body = x }) ++ listing_from (after n) (drop (4 + m) (s ++ t))) b
    ∙ ap (λ x. entry_line n (entry_at s k m) ++ listing_from (after n) x) (drop-append-le (4 + m) s t l)

-- ---- windows

-- the lines of the first records, then the listing of what is left, whatever comes behind
window : {s : List ℕ} {es : List Entry} → Begins s es → (n : ℕ) (t : List ℕ)
    → listing_from n (s ++ t) ≡ lines n es ++ listing_from (after_all n es) (drop (size_of es) s ++ t)
unfolding lines after_all size_of
window none n t = refl
window {s} (one {k = k} {m = m} {es = es} e x) n t =
    let d : drop (size_of es) (drop (4 + m) s) ≡ drop (4 + length (take m (drop 4 s)) + size_of es) s = rw (body_size s k m e) (drop-drop (size_of es) (4 + m) s) in
    more s t k m n e
    ∙ ap (λ l. entry_line n (entry_at s k m) ++ l) (window x (after n) t)
    ∙ sym (append_assoc (entry_line n (entry_at s k m)) (lines (after n) es) _)
    ∙ ap (λ l. (entry_line n (entry_at s k m) ++ lines (after n) es) ++ listing_from (after_all (after n) es) (l ++ t)) d

-- The lines of the records that a call lists and the listing of what is left are the listing, whatever comes behind.
pub chosen_window : (s : List ℕ) (n : ℕ) (out t : List ℕ)
    → listing_from n (s ++ t) ≡ lines n (chosen s n out) ++ listing_from (after_all n (chosen s n out)) (drop (size_of (chosen s n out)) s ++ t)
chosen_window s n out t = window (begins (length s) s (length out) n (omega arith)) n t

-- A window that begins with a length that no record has: all bytes left are a broken record.
pub bad_end : (s : List ℕ) (n : ℕ) → front s ≡ Bad → (t : List ℕ) → listing_from n (s ++ t) ≡ ending_of n (length (s ++ t))
bad_end s n e t =
    let f : front (s ++ t) ≡ Bad = front_stays s t (λ x. let z : ◌≡◌ {A = ℕ} 0 1 = cc in absurd (omega arith)) ∙ e in
    no_records (s ++ t) (records_open (s ++ t) ∙ ap (λ x. opened x (s ++ t) records) f) n
