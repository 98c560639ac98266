-- The record of a head's, areas' and text's values is these; the three ways in which reading answers; and what the walk over a notice is: reading's answer. Assumes nothing.
use Rattle.std.specs.Prelude.{◌≡◌, Bool, ◌&&◌, List, [], ◌∷◌, ◌++◌, ℕ, ◌+◌, ◌-◌, ◌*◌, ◌≤◌, ◌<◌, leb, length, take, drop, get_or, Result, Ok, Err}
use Rattle.std.proofs.Math.Path.{refl, sym}
use Rattle.std.proofs.Common.{ap, ◌∙◌, length-append, take_at, get_or-drop, get_or-append-add, zero-add, le-leb, leb-true}
use Rattle.std.proofs.Math.Bool.{true, false, cond, and-false}
use native.Mathlib.Omega.{arith}
use Rattle.std.proofs.lemmas.List.Edits.{sets-eq}
use Rattle.std.proofs.lemmas.Bool.{lt-leb}
use Rattle.bits.specs.Bits.{Bytes, value_of, bits_of, bytes_at}
use Rattle.format.specs.Fmt.{accepted, refused}
use Rattle.format.specs.Message.{read_message, ahead}
use Rattle.format.specs.Promises.{read_record, out_of, refused_by}
use Rattle.format.specs.Refusals.{Verdict, shown, bare, seen_refusal}
use Rattle.format.specs.declared.Refusal.{Refusal}
use Rattle.bits.specs.Answers.{gettable}
use Rattle.bits.specs.Laws.Runs.{length_run}
use Rattle.format.specs.Laws.Runs.{run_again}
use Rattle.walk.specs.Laws.Walked.{Walked}
use Rattle.notice_fields.specs.Standing.{front, areas_at}
use Rattle.notice_fields.specs.Shapes.{filled}
use Rattle.packet.specs.Packet.{joined}
use Rattle.notice_fields.specs.Terms.{Terms}
use Rattle.notice.specs.Notice.{ours, notice, notices, sizes}
use Rattle.notice.specs.Steps.{Course}
use Rattle.notice.specs.Promises.{told_of, Reads}
use Rattle.notice.specs.Record.{Whole, headed, texted, head_of, text_of, record_of}
use Rattle.notice.specs.declared.reading.Notice.{Notice}
use Rattle.notice.specs.declared.reading.Told.{Told}

pub recorded : (r : Notice) (xs : List ℕ) (n v : ℕ) → record_of (headed r (xs ++ (n ∷ v ∷ []))) ≡ (r, (xs, text_of n v))
unfolding record_of head_of
recorded r xs n v =
    let vs = headed r (xs ++ (n ∷ v ∷ [])) in
    let long : length vs ≡ 8 + (length xs + 2) = let e = length-append xs (n ∷ v ∷ []) in omega (arith, e) in
    let ten : length vs - 10 ≡ length xs = omega (arith, long) in
    let two : length vs - 2 ≡ 8 + (length xs + 0) = omega (arith, long) in
    let one : length vs - 1 ≡ 8 + (length xs + 1) = omega (arith, long) in
    let areas : take (length vs - 10) (xs ++ (n ∷ v ∷ [])) ≡ xs = ap (λ k. take k (xs ++ (n ∷ v ∷ []))) ten ∙ take_at xs (n ∷ v ∷ []) (length xs) refl in
    let size : get_or vs (length vs - 2) 0 ≡ n = ap (λ k. get_or vs k 0) two ∙ sym (get_or-drop 8 vs (length xs + 0) 0) ∙ get_or-append-add xs (n ∷ v ∷ []) 0 0 in
    let number : get_or vs (length vs - 1) 0 ≡ v = ap (λ k. get_or vs k 0) one ∙ sym (get_or-drop 8 vs (length xs + 1) 0) ∙ get_or-append-add xs (n ∷ v ∷ []) 1 0 in
    λ i. (r, (areas i, text_of (size i) (number i)))

pub told : (r : Notice) (xs t : List ℕ) → Bytes t → record_of (headed r (xs ++ texted t)) ≡ (r, (xs, t))
unfolding text_of
told r xs t fine = recorded r xs (length t) (value_of (bits_of t)) ∙ ap (λ t. (r, (xs, t))) (run_again t fine)

module _ (terms : Terms) (s a t : List ℕ) where
  pub reads_refused : {c p : ℕ} {r : Verdict} (x : Result Told Refusal) → out_of x ≡ refused_by r → r ≡ shown c p → read_record (notices terms) record_of s ≡ refused c p → Reads terms s a t x a t
  reads_refused x out is e = rw e (out ∙ ap refused_by is, refl, refl)

  module _ {x : Whole} (e : read_record (notices terms) record_of s ≡ accepted x) where
    pub reads_few : (f : Refusal) → seen_refusal f ≡ bare 6 → length a < length x.1.0 → Reads terms s a t (Err f) a t
    reads_few f is l = rw (e, lt-leb (length x.1.0) (length a) l) (ap refused_by is, refl, refl)

    pub reads_short : (f : Refusal) → seen_refusal f ≡ bare 6 → length t < length x.1.1 → Reads terms s a t (Err f) a t
    reads_short f is l = rw (e, lt-leb (length x.1.1) (length t) l, and-false (leb (length x.1.0) (length a))) (ap refused_by is, refl, refl)

    pub reads_good : length x.1.0 ≤ length a → length x.1.1 ≤ length t → Reads terms s a t (Ok (told_of x)) (ahead x.1.0 a) (ahead x.1.1 t)
    reads_good k l = rw (e, le-leb (length x.1.0) (length a) k, le-leb (length x.1.1) (length t) l) (refl, refl, refl)

-- ---- what goes into what is lent

pub stored : (row xs : List ℕ) → length xs ≤ length row → filled xs row ≡ ahead xs row
stored row xs l = rw (le-leb (length xs) (length row) l) (sets-eq xs row 0 (omega arith) ∙ ap (λ n. xs ++ drop n row) (zero-add (length xs)))

pub kept_row : (row xs : List ℕ) → length row < length xs → filled xs row ≡ row
kept_row row xs l = rw (lt-leb (length xs) (length row) l) refl

-- the text from bit `at` on
pub copied : (s : List ℕ) (at n : ℕ) (t : List ℕ) {b : Bool} {u : List ℕ} → at + n * 8 ≤ length s * 8 → n ≤ length t → (b ≡ gettable s at n t) × (u ≡ cond b (bytes_at s at n ++ drop n t) t) → u ≡ ahead (bytes_at s at n) t
copied s at n t fits room x =
    let e : gettable s at n t ≡ true = rw (le-leb (at + n * 8) (length s * 8) fits, le-leb n (length t) room) refl in
    x.1 ∙ ap (λ b. cond b (bytes_at s at n ++ drop n t) t) (x.0 ∙ e) ∙ ap (λ m. bytes_at s at n ++ drop m t) (sym (length_run s at n))

-- ---- behind the first test

pub sizes_small : (s : List ℕ) → sizes s ≡ 0 → length s ≤ joined
sizes_small s = go (leb 8 (length s)) (leb (length s) joined) refl
  where
    go : (x y : Bool) → leb (length s) joined ≡ y → ◌≡◌ {A = ℕ} (cond x (cond (x && y) 0 1) 1) 0 → length s ≤ joined
    go x true e z = leb-true (length s) joined e
    go true false e z = absurd (omega (arith, z))
    go false false e z = absurd (omega (arith, z))

-- a walk over the whole notice, sought for field i: the values that reading has, and where the text stands
pub record FieldsAre (english : Bool) (i : ℕ) (s : List ℕ) (f : Course) : Type 0 where
  pub walked : Walked (read_message (notices (ours english)) s) (notice (ours english)) i (headed f.notice (areas_at s f.notice.count front ++ texted (bytes_at s f.at f.text))) f.walk
  pub few : f.notice.count ≤ 15
  pub fits : f.walk.code ≡ 0 → f.at + f.text * 8 ≤ length s * 8
