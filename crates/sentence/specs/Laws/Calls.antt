-- What the calls' steps say of the definitions: reading takes the accepted sentence apart, writing tests address, report and room. Assumes nothing.
use Rattle.std.specs.Prelude.{Bool, true, false, cond, List, ◌++◌, ◌≡◌, ℕ, ◌+◌, ◌≤◌, ◌<◌, length, drop}
use Rattle.std.proofs.Common.{append-nil, sym, ◌∙◌, arith, drop_of_length-le, le-leb, leb-true, leb-false}
use Rattle.std.proofs.Math.Path.{refl, ap, subst}
use Rattle.std.proofs.lemmas.Bool.{lt-leb}
use Rattle.bits.specs.Bits.{Bytes}
use Rattle.format.specs.Fmt.{Out, accepted, refused, also}
use Rattle.format.specs.Message.{told, leaves, into, write_message}
use Rattle.format.specs.Refusals.{shown, bare}
use Rattle.format.specs.Laws.Refusals.{shown_bare}
use Rattle.format.specs.Refusals.{Verdict}
use Rattle.format.proofs.Laws.Whole.{made}
use Rattle.format.proofs.Laws.Family.{never_written}
use Rattle.format.specs.Promises.{read_record, refused_by, plain, Writes}
use Rattle.distress.specs.Laws.Demands.{long}
use Rattle.distress.proofs.Laws.Demands.{family}
use Rattle.distress.specs.Report.{reports, values_of, report_of}
use Rattle.sentence.specs.Pattern.{Laid, opening, summed_up, sentence, address_good, hex_part, around_so, around_of}
use Rattle.sentence.specs.Spelling.{all_digits, decimal, unhexed}
use Rattle.sentence.specs.Sentence.{read_sentence, write_sentence, room_for, sent_of, laid_over, SendsOut}
use Rattle.sentence.specs.Laws.Parts.{summed_long}
use Rattle.sentence.specs.Laws.Tests.{around_bare}
use Rattle.distress.specs.declared.reading.Report.{Report}

-- ---- reading

pub heard_fails : (s : List ℕ) (c p : ℕ) → around_so s ≡ refused c p → read_sentence s ≡ refused c p
unfolding read_sentence
heard_fails s c p e = rw e refl

pub heard_refused : (s : List ℕ) (c : ℕ) → refused c 0 ≡ around_of (around_so s) → plain (read_sentence s) ≡ refused c 0
heard_refused s c e = go (around_so s) refl e
  where
    go : (o : Out (ℕ × List ℕ)) → around_so s ≡ o → refused c 0 ≡ around_of o → plain (read_sentence s) ≡ refused c 0
    go (accepted y) g e = let z : ◌≡◌ {A = ℕ} 0 1 = cc in absurd (omega arith)
    go (refused d p) g e = let z : d ≡ c = cc in ap plain (heard_fails s d p g) ∙ ap (λ p. refused_by (shown d p)) (around_bare s d p g) ∙ ap refused_by (shown_bare d ∙ ap bare z)

-- an accepted sentence: its size, its digits, and what is inside
pub record Taken (s : List ℕ) (a : ℕ) : Type 0 where
  pub least : 54 ≤ length s
  pub figures : all_digits 16 (hex_part s) ≡ true
  pub inside : around_so s ≡ accepted (a, unhexed (hex_part s))

-- a report's answer inside a sentence
abbrev pub heard_as : ℕ → Out Report → Out (ℕ × Report)
heard_as a = also (λ r. (a, r))

pub heard_inside : (s : List ℕ) (a : ℕ) (bs : List ℕ) → around_so s ≡ accepted (a, bs) → plain (read_sentence s) ≡ heard_as a (plain (read_record reports report_of bs))
unfolding read_sentence
heard_inside s a bs e = rw e (go (read_record reports report_of bs))
  where
    go : (o : Out Report) → plain (also (λ r. (a, r)) o) ≡ heard_as a (plain o)
    go (accepted r) = refl
    go (refused c p) = refl

-- ---- a report that is written has 17 bytes

pub record Bytewise (bs : List ℕ) : Type 0 where
  pub long : length bs ≡ 17
  pub fine : Bytes bs

pub bytewise : (vs bs : List ℕ) → write_message reports vs ≡ accepted bs → Bytewise bs
unfolding reports
bytewise vs bs e = let m = made reports bs vs e in record { long = long vs bs e; fine = subst Bytes m.closes m.fine }

-- what writing into 17 bytes says
pub record Reported (r : Report) (code : Verdict) (t : List ℕ) : Type 0 where
  pub good : code.code ≡ 0 → write_message reports (values_of r) ≡ accepted t
  pub bad : (code.code ≡ 0 → ⊥) → code ≡ told (write_message reports (values_of r))

pub reported : (u : List ℕ) (r : Report) (code : Verdict) (t : List ℕ) → length u ≡ 17 → Writes reports u code t (values_of r) → Reported r code t
reported u r code t n (z, x) = go (write_message reports (values_of r)) refl z x
  where
    go : (o : Out (List ℕ)) → write_message reports (values_of r) ≡ o → code ≡ told (into u o) → t ≡ leaves (into u o) u → Reported r code t
    go (refused c p) e z x = record { good = λ h. absurd (never_written family r p tt (e ∙ ap (λ c. refused c p) (sym (ap (λ c. c.code) z) ∙ h))); bad = λ h. z ∙ sym (ap told e) }
    go (accepted m) e z x =
        let l = (bytewise (values_of r) m e).long in
        let y : into u (accepted m) ≡ accepted m =
        rw (le-leb (length m) (length u) (omega arith)) (ap (λ q. accepted (m ++ q)) (drop_of_length-le u {i = length m} (omega arith)) ∙ ap accepted (append-nil m)) in
        record { good = λ h. e ∙ ap accepted (sym (x ∙ ap (λ o. leaves o u) y)); bad = λ h. absurd (h (ap (λ c. c.code) (z ∙ ap told y))) }

-- ---- writing

pub sends : (s : List ℕ) (a : ℕ) (r : Report) (o : Out (List ℕ)) → room_for s (write_sentence a r) ≡ o → SendsOut s a r (sent_of o) (laid_over o s)
sends s a r o e = (ap sent_of (sym e), ap (λ o. laid_over o s) (sym e))

module _ (s : List ℕ) (a : ℕ) (r : Report) where
  pub bad_address : address_good a ≡ false → SendsOut s a r (refused_by (bare 4)) s
  unfolding write_sentence
  bad_address e = sends s a r (refused 4 0) (rw e refl)

  module _ (good : address_good a ≡ true) where
    pub bad_report : (c : Verdict) → (c.code ≡ 0 → ⊥) → c ≡ told (write_message reports (values_of r)) → SendsOut s a r (refused_by c) s
    unfolding write_sentence
    bad_report c h e = go (write_message reports (values_of r)) refl e
      where
        go : (o : Out (List ℕ)) → write_message reports (values_of r) ≡ o → c ≡ told o → SendsOut s a r (refused_by c) s
        go (accepted m) f e = absurd (h (ap (λ c. c.code) e))
        go (refused d p) f e = subst (λ c. SendsOut s a r (refused_by c) s) (sym e) (sends s a r (refused d p) (rw (good, f) refl))

    module _ (bs : List ℕ) (made : write_message reports (values_of r) ≡ accepted bs) where
      wrote : write_sentence a r ≡ accepted (sentence a bs)
      unfolding write_sentence
      wrote = rw (good, made) refl

      no_room : length s < length (sentence a bs) → SendsOut s a r (refused_by (bare 6)) s
      no_room h = sends s a r (refused 6 0) (ap (room_for s) wrote ∙ rw (lt-leb (length (sentence a bs)) (length s) h) refl)

      pub all_sent : length (sentence a bs) ≤ length s → room_for s (write_sentence a r) ≡ accepted (sentence a bs)
      all_sent h = ap (room_for s) wrote ∙ rw (le-leb (length (sentence a bs)) (length s) h) refl

      pub sentence_size : length (sentence a bs) ≡ 53 + length (decimal 7 a)
      unfolding sentence
      sentence_size = summed_long (decimal 7 a) bs (bytewise (values_of r) bs made).long

      -- what laying it down says, with the digits ds
      module _ (ds t : List ℕ) (b : Bool) (q : ds ≡ decimal 7 a) (laid : Laid (summed_up (opening ds bs)) s b t) where
        is : summed_up (opening ds bs) ≡ sentence a bs
        unfolding sentence
        is = ap (λ d. summed_up (opening d bs)) q

        pub all_laid : (n : ℕ) → n ≡ 53 + length (decimal 7 a) → b ≡ true → SendsOut s a r (accepted n) t
        all_laid n k e =
            let room = leb-true (length (summed_up (opening ds bs))) (length s) (sym laid.0 ∙ e) in
            let x = all_sent (omega (arith, room, ap length is)) in (
              ap accepted (k ∙ sym sentence_size) ∙ ap sent_of (sym x),
              laid.1 ∙ ap (λ b. cond b (summed_up (opening ds bs) ++ drop (length (summed_up (opening ds bs))) s) s) e ∙ ap (λ w. w ++ drop (length w) s) is ∙ ap (λ o. laid_over o s) (sym x),
            )

        pub none_laid : b ≡ false → SendsOut s a r (refused_by (bare 6)) t
        none_laid e =
            let room = leb-false (length (summed_up (opening ds bs))) (length s) (sym laid.0 ∙ e) in
            let x = no_room (omega (arith, room, ap length is)) in
            (x.0, laid.1 ∙ ap (λ b. cond b (summed_up (opening ds bs) ++ drop (length (summed_up (opening ds bs))) s) s) e ∙ x.1)
