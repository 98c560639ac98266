-- The text of a notice judged as one field of whole bytes, however many a caller lends. Assumes nothing.
use Rattle.std.specs.Prelude.{ℕ, ◌+◌, ◌*◌, ◌%◌, ◌<◌, ◌^◌, ◌≡◌, refl, Bool, true, false, cond, ◌&&◌, List, [], eqb, length}
use Rattle.std.proofs.Common.{sym, ap, ◌∙◌, arith, add-zero, mod-eq_of_lt, le-leb, lt-ltb, eqb-true, ne_eqb}
use Rattle.std.proofs.Math.Path.{subst⁻¹}
use Rattle.bits.specs.Answers.{spanned}
use Rattle.bits.specs.Bits.{Bytes, value_of, bits_of, bytes_of, bytes_at}
use Rattle.bits.specs.Laws.Bytes.{length_bits, bytes_bits}
use Rattle.bits.specs.Laws.Digits.{digits_value}
use Rattle.bits.specs.Laws.Runs.{bytes_value_lt}
use Rattle.format.specs.Fmt.{Out, accepted, refused, Fmt, end, pad}
use Rattle.format.specs.Words.{unless}
use Rattle.format.specs.Laws.Extent.{opens_field}
use Rattle.format.specs.Laws.Tells.{blamed, wrong}
use Rattle.walk.specs.Judging.{beyond}
use Rattle.walk.specs.Walk.{onward, Walk}
use Rattle.walk.specs.Laws.Judging.{Judging, Judged, judge_bytes, judge_beyond, judge_end}
use Rattle.walk.specs.Laws.Loops.{Going}
use Rattle.walk.specs.Laws.Step.{sticky, clear, stuck}
use Rattle.text.specs.Text.{in_language}
use Rattle.notice_fields.specs.Making.{fresh}
use Rattle.notice_fields.specs.Standing.{front}
use Rattle.notice.specs.Notice.{ours, text}
use Rattle.notice.specs.Record.{texted}

-- the fault of a text's number is its language's
text_wrong : (english : Bool) (t : List ℕ) → Bytes t
    → wrong (length t * 8) (λ b. unless (in_language english (bytes_of (length t) b)) 4 0) (value_of (bits_of t)) ≡ blamed (cond (in_language english t) 0 4) 0
text_wrong english t fine =
    let n = length t in
    rw (lt-ltb (value_of (bits_of t)) (2 ^ (n * 8)) (bytes_value_lt t), digits_value (n * 8) (bits_of t) (length_bits t), bytes_bits t fine) (go (in_language english t))
  where
    go : (x : Bool) → unless x 4 0 ≡ blamed (cond x 0 4) 0
    go true = refl
    go false = refl

-- what the call that judges it answers
pub spoken_whole : (english : Bool) (t : List ℕ) → Bytes t → spanned (length t) 0 (length t) && in_language english (bytes_at t 0 (length t)) ≡ in_language english t
unfolding bytes_at
spoken_whole english t fine = rw (le-leb (0 + length t * 8) (length t * 8) (omega arith)) (ap (in_language english) (bytes_bits t fine))

-- a fault that is told before the text is gone past
same_judged : {o : Out (List Bool)} (w c : ℕ) (r : Walk) → r.at < 2 ^ 64 → Judged o (beyond w c r) → Judged o (beyond w 0 (onward 0 false 0 c 0 r))
unfolding beyond onward
same_judged {o} w c r small x = record {
  laid = x.laid;
  so = x.so ∙ go (eqb k 0) refl;
  long = λ z. x.long (zero_is (eqb k 0) refl z) ∙ ap (λ a. a + w + pad (a + w)) (sym here);
}
  where
    k : ℕ
    k = cond (eqb r.code 0) c r.code

    here : (r.at + 0) % 2 ^ 64 ≡ r.at
    here = ap (◌% 2 ^ 64) (add-zero r.at) ∙ mod-eq_of_lt small

    zero_is : (t : Bool) → eqb k 0 ≡ t → cond t 0 k ≡ 0 → k ≡ 0
    zero_is true e z = eqb-true k 0 e
    zero_is false e z = z

    go : (t : Bool) → eqb k 0 ≡ t → sticky (beyond w c r) (accepted x.laid) ≡ sticky (beyond w 0 (onward 0 false 0 c 0 r)) (accepted x.laid)
    go true e = rw e refl
    go false e = rw (e, e) (ap (λ a. refused k (cond (eqb r.code 0) (cond (eqb c 0) 0 a) r.offset)) (sym here))

pub text_judged : {o : Out (List Bool)} (english : Bool) (t : List ℕ) (c : ℕ) {r q : Walk} → Bytes t → r.at < 2 ^ 64 → c ≡ cond (in_language english t) 0 4 → q ≡ onward 0 false 0 c 0 r
    → Going o (text (ours english) end) (texted t) r → Judged o (beyond (length t * 8) 0 q)
text_judged {o} english t c {r} {q} fine small is d x =
    let n = length t in
    let y = judge_bytes (omega arith) x.is in
    let z = judge_beyond c opens_field (text_wrong english t fine ∙ ap (λ c. blamed c 0) (sym is)) y in
    subst⁻¹ (λ q. Judged o (beyond (n * 8) 0 q)) d (same_judged (n * 8) c r small (judge_end z))

-- nothing was refused in front of the areas: they are judged by a walk of their own
pub from_front : {o : Out (List Bool)} {f : Fmt} {h vs : List ℕ} {w : Walk} → w.code ≡ 0 → Judging o f h front vs w → Going o f vs fresh
from_front {h = h} {w = w} z x = record { before = h; is = record { k = x.k; so = x.so ∙ clear w _ z; here = λ _. refl; long = λ _. x.long z } }

-- after a refusal nothing more is judged
pub refused_judged : {o : Out (List Bool)} (w : ℕ) {f : Fmt} {vs : List ℕ} {r : Walk} → (r.code ≡ 0 → ⊥) → Going o f vs r → Judged o (beyond w 0 r)
unfolding beyond
refused_judged {o} w {r = r} n x = record {
  laid = [];
  so = x.is.so ∙ stuck r _ n ∙ rw (ne_eqb r.code 0 n, ne_eqb r.code 0 n) refl;
  long = λ z. absurd (n (go (eqb r.code 0) refl z));
}
  where
    go : (t : Bool) → eqb r.code 0 ≡ t → cond t 0 r.code ≡ 0 → r.code ≡ 0
    go true e z = eqb-true r.code 0 e
    go false e z = z
