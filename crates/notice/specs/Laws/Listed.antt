-- Values of a notice: those of a record are as many as its fields; and accepted ones are a head's, an exact row of its areas' numbers, and a text's two. Assumes nothing.
use Rattle.std.specs.Prelude.{◌≡◌, refl, Bool, true, false, List, [], ◌∷◌, ◌++◌, ℕ, ◌*◌, ◌/◌, ◌<◌, ◌^◌, length, drop}
use Rattle.std.proofs.Common.{sym, ap, ◌∙◌, subst, arith, take-append-drop}
use Rattle.bits.specs.Bits.{digits, bytes_of}
use Rattle.format.specs.Fmt.{good, end}
use Rattle.format.specs.Words.{unless}
use Rattle.format.proofs.Laws.Extent.{extent_lay}
use Rattle.format.specs.Laws.Legal.{Legal}
use Rattle.format.specs.Laws.Past.{Filled, past_legal, past_counted, legal_filled}
use Rattle.format.specs.Laws.Zero.{Counted}
use Rattle.format.specs.Laws.Groups.{exact_told}
use Rattle.notice_fields.specs.Laws.Instances.{some_areas}
use Rattle.notice_fields.specs.Areas.{areas}
use Rattle.notice_fields.specs.Row.{areas_long, areas_told}
use Rattle.notice_fields.specs.Standing.{front}
use Rattle.notice_fields.specs.Terms.{Terms}
use Rattle.notice.specs.Notice.{text, rest, notice}
use Rattle.notice.specs.Record.{Whole, headed, texted, text_of, values_of, head_of}

-- ---- a record's

text_counted : (terms : Terms) (t : List ℕ) (at : ℕ) → Counted (text terms end) at (texted t)
text_counted terms t at = (tt, λ b e. ap (◌/ 8) (extent_lay _ at _ b e) ∙ omega arith)

pub counted : (terms : Terms) (x : Whole) → Counted (notice terms) 0 (values_of x)
unfolding notice values_of
counted terms x =
    let n = x.0.count in
    let row = x.1.0 in
    past_counted (areas terms.point n (text terms end)) (text terms end) front (areas_told n row) (texted x.1.1) ((some_areas terms.point n).past row (text terms end)) (text_counted terms x.1.1)

-- ---- accepted ones

-- a head's eight, and what follows
eight : (terms : Terms) (vs : List ℕ) → Filled (notice terms) vs → vs ≡ headed (head_of vs) (drop 8 vs)
unfolding notice head_of
eight terms [] x = absurd x
eight terms (a ∷ []) x = absurd x
eight terms (a ∷ b ∷ []) x = absurd x
eight terms (a ∷ b ∷ c ∷ []) x = absurd x
eight terms (a ∷ b ∷ c ∷ d ∷ []) x = absurd x
eight terms (a ∷ b ∷ c ∷ d ∷ e ∷ []) x = absurd x
eight terms (a ∷ b ∷ c ∷ d ∷ e ∷ f ∷ []) x = absurd x
eight terms (a ∷ b ∷ c ∷ d ∷ e ∷ f ∷ g ∷ []) x = absurd x
eight terms (a ∷ b ∷ c ∷ d ∷ e ∷ f ∷ g ∷ n ∷ us) x = refl

-- a text's size and its number
pub two : (terms : Terms) (us : List ℕ) → Filled (text terms end) us → (n : ℕ) × (v : ℕ) × (us ≡ n ∷ v ∷ [])
two terms [] x = absurd x
two terms (n ∷ []) x = absurd x
two terms (n ∷ v ∷ []) x = (n, v, refl)
two terms (n ∷ v ∷ u ∷ us) x = absurd x

pub record Listed (terms : Terms) (vs : List ℕ) : Type 0 where
  pub row : List ℕ
  pub size : ℕ
  pub number : ℕ
  pub is : vs ≡ headed (head_of vs) (row ++ (size ∷ number ∷ []))
  pub exact : areas_long (head_of vs).count row ≡ length row
  pub narrow : number < 2 ^ (size * 8)
  pub spoken : terms.text (text_of size number) ≡ true

pub listed : (terms : Terms) (vs : List ℕ) → Legal (notice terms) [] vs → Listed terms vs
unfolding notice text_of
listed terms vs h =
    let r = head_of vs in
    let n = r.count in
    let us = drop 8 vs in
    let head = eight terms vs (legal_filled (notice terms) [] vs h) in
    let g = (subst (Legal (notice terms) []) head h).2.2.2.2.2.2.2.2 in
    let (enough, y) = (some_areas terms.point n).filled us (text terms end) (legal_filled (rest terms n) _ us g) in
    let (size, number, last) = two terms (drop (areas_long n us) us) y in
    let row = areas_told n us in
    let whole : us ≡ row ++ (size ∷ number ∷ []) = sym (take-append-drop (areas_long n us) us) ∙ (λ i. sym ((some_areas terms.point n).fits us enough) i ++ last i) in
    let (h', t) = past_legal (rest terms n) (text terms end) _ row (size ∷ number ∷ []) ((some_areas terms.point n).past us (text terms end)) (subst (Legal (rest terms n) _) whole g) in
    record { row = row; size = size; number = number; is = head ∙ ap (headed r) whole; exact = exact_told (some_areas terms.point n) us; narrow = t.0; spoken = faultless (terms.text (bytes_of size (digits (size * 8) number))) t.1 }
  where
    faultless : (x : Bool) → unless x 4 0 ≡ good → x ≡ true
    faultless true e = refl
    faultless false e = let z : ◌≡◌ {A = ℕ} 0 1 = cc in absurd (omega arith)
