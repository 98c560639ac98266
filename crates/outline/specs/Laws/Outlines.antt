-- The three ways in which an outline is answered, from the definition by the reading's case; and the promise allows one answer. Assumes nothing.
use Rattle.std.specs.Prelude.{ℕ, ◌≤◌, ◌<◌, Bool, ℤ, length, drop, leb, Result, Ok, Err}
use Rattle.std.proofs.Math.Path.{◌≡◌, refl, ap}
use Rattle.std.proofs.Common.{sym, ◌∙◌, zero-add, arith, le-leb}
use Rattle.std.proofs.Math.Bool.{true, false}
use mathlib.Core.List.{List, ◌++◌}
use Rattle.std.proofs.lemmas.List.Edits.{sets, sets-eq}
use Rattle.std.proofs.lemmas.Bool.{lt-leb}
use Rattle.format.specs.Fmt.{Out, accepted, refused, check, or_bad, also}
use Rattle.format.specs.Message.{read_message, leaves, into}
use Rattle.format.specs.Promises.{out_of, refused_by, plain}
use Rattle.format.specs.Refusals.{Verdict, shown, bare, seen_refusal}
use Rattle.format.specs.declared.Refusal.{Refusal}
use Rattle.format.specs.Laws.Round.{clash, refused_inj}
use Rattle.notice.specs.Laws.Demands.{one_out}
use Rattle.format.proofs.Laws.Zero.{read_zero_message}
use Rattle.notice.specs.Notice.{ours, notices}
use Rattle.notice.specs.Record.{Whole, record_of}
use Rattle.notice.specs.Laws.Sound.{judged}
use Rattle.outline.specs.Promises.{told, outline_in, count_in, points_told, drawn, counted, Outlines}

module _ (english : Bool) (s : List ℕ) (row : List ℤ) where
  pub outlines_refused : {c p : ℕ} {r : Verdict} (x : Result ℕ Refusal) → out_of x ≡ refused_by r → r ≡ shown c p → told english s ≡ refused c p → Outlines english s row x row
  outlines_refused x out is e = rw e (out ∙ ap refused_by is, refl)

  module _ {x : Whole} (e : told english s ≡ accepted x) where
    abbrev points : List ℤ
    points = outline_in x

    pub outlines_short : (f : Refusal) → seen_refusal f ≡ bare 6 → length row < length points → Outlines english s row (Err f) row
    outlines_short f is l = rw (e, lt-leb (length points) (length row) l) (ap refused_by is, refl)

    pub outlines_good : length points ≤ length row → Outlines english s row (Ok (count_in x)) (sets row 0 points)
    outlines_good l =
        let is : sets row 0 points ≡ points ++ drop (length points) row = sets-eq points row 0 (omega arith) ∙ ap (λ n. points ++ drop n row) (zero-add (length points)) in
        rw (e, le-leb (length points) (length row) l) (refl, is)

  -- two answers that the promise allows are equal
  pub one_outline : (a b : Result ℕ Refusal) (t u : List ℤ) → Outlines english s row a t → Outlines english s row b u → (a ≡ b) × (t ≡ u)
  one_outline a b t u f g = (one_out a b (f.0 ∙ sym g.0), f.1 ∙ sym g.1)

  -- a refusal leaves the row as it was
  pub refused_outline : (f : Refusal) (t : List ℤ) → Outlines english s row (Err f) t → t ≡ row
  refused_outline f t x = go (drawn english s row) x.0 x.1
    where
      go : (o : Out (List ℤ)) → refused_by (seen_refusal f) ≡ plain (also (λ t. points_told english s) o) → t ≡ leaves o row → t ≡ row
      go (accepted u) a e = clash a
      go (refused d p) a e = e

  -- no refusal has the number 0
  pub no_zero_outline : (c : Verdict) → c.code ≡ 0 → refused_by c ≡ plain (counted english s row) → ⊥
  unfolding notices
  no_zero_outline c z e = go (read_message (notices (ours english)) s) refl e
    where
      full : (b : Bool) (u : List ℤ) → refused_by c ≡ plain (also (λ t. points_told english s) (check (or_bad b 6) 0 (accepted u))) → ⊥
      full true u a = clash a
      full false u a = let k = (refused_inj a).0 in omega (arith, z, k)

      go : (o : Out (List ℕ)) → read_message (notices (ours english)) s ≡ o → refused_by c ≡ plain (also (λ t. points_told english s) (into row (also outline_in (also record_of o)))) → ⊥
      go (accepted vs) m a = full (leb (length (outline_in (record_of vs))) (length row)) _ a
      go (refused d p) m a = let k = (refused_inj a).0 in read_zero_message (notices (ours english)) s p (judged (ours english)) (m ∙ ap (λ d. refused d p) (sym k ∙ z))
