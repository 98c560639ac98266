-- A buffer filled from the front, part by part: each put lengthens what stands there. Assumes nothing.
use mathlib.Core.List.{List, [], ◌++◌, append_assoc}
use Rattle.std.specs.Prelude.{◌≡◌, ℕ, ◌+◌, take}
use Rattle.std.proofs.Math.Path.{refl, sym, ap}
use Rattle.std.proofs.Common.{◌∙◌, arith, take_at, drop_at, drop-drop}
use Rattle.std.proofs.Math.ListN.{length, drop, length-append}
use Rattle.std.proofs.Math.Seq.{paste, take-length}
use Rattle.bits.specs.Xor.{xor_of}
use Rattle.sentence.specs.Pattern.{Front, start_mark, inner_mark, opening, summed_up, part}
use Rattle.sentence.specs.Spelling.{hex_of, closing_of}
use Rattle.sentence.specs.Laws.Hex.{hex_length}
use Rattle.sentence.specs.Laws.Parts.{part_tail}

pub front_put : (w p s t : List ℕ) (at : ℕ) {u : List ℕ} → length w ≡ at → Front w s t → u ≡ paste t at p (length p) → Front (w ++ p) s u
front_put w p s t at e f g =
    let a : take at t ≡ w = ap (take at) f ∙ take_at w (drop (length w) s) at e in
    let b : drop at t ≡ drop (length w) s = ap (drop at) f ∙ drop_at w (drop (length w) s) at e in
    let c : drop (at + length p) t ≡ drop (length (w ++ p)) s =
    sym (drop-drop (length p) at t) ∙ ap (drop (length p)) b ∙ drop-drop (length p) (length w) s ∙ ap (λ n. drop n s) (sym (length-append w p)) in
    g ∙ ap (λ x. x ++ take (length p) p ++ drop (at + length p) t) a ∙ ap (λ x. w ++ x ++ drop (at + length p) t) (take-length p) ∙ ap (λ x. w ++ p ++ x) c

-- The parts of a sentence put one after another, the sum taken of what stands.
module _ (ds bs s t₁ t₂ t₃ t₄ h last : List ℕ) (mark star : ℕ) (n : length bs ≡ 17) (x : h ≡ hex_of bs) (m : mark ≡ 7 + length ds) (e : star ≡ mark + 41)
    (p₁ : t₁ ≡ paste s 0 start_mark 7) (p₂ : t₂ ≡ paste t₁ 7 ds (length ds)) (p₃ : t₃ ≡ paste t₂ mark inner_mark 7) (p₄ : t₄ ≡ paste t₃ (mark + 7) h (length h))
  where
    before_star : List ℕ
    before_star = ((start_mark ++ ds) ++ inner_mark) ++ h

    is_opening : before_star ≡ opening ds bs
    unfolding before_star opening
    is_opening =
        ap (λ y. ((start_mark ++ ds) ++ inner_mark) ++ y) x
        ∙ append_assoc (start_mark ++ ds) inner_mark (hex_of bs)
        ∙ append_assoc start_mark ds (inner_mark ++ hex_of bs)

    stands : Front before_star s t₄
    unfolding before_star
    stands =
        let f₁ : Front start_mark s t₁ = front_put [] start_mark s s 0 refl refl p₁ in
        let f₂ = front_put start_mark ds s t₁ 7 refl f₁ p₂ in
        let f₃ = front_put (start_mark ++ ds) inner_mark s t₂ mark (length-append start_mark ds ∙ sym m) f₂ p₃ in
        front_put ((start_mark ++ ds) ++ inner_mark) h s t₃ (mark + 7) (length-append (start_mark ++ ds) inner_mark ∙ omega (arith, length-append start_mark ds)) f₃ p₄

    star_there : length before_star ≡ star
    unfolding before_star
    star_there =
        length-append ((start_mark ++ ds) ++ inner_mark) h
        ∙ omega (arith, length-append (start_mark ++ ds) inner_mark, length-append start_mark ds, ap length x, hex_length bs)

    pub all_laid : {t : List ℕ} → last ≡ closing_of (xor_of (part 1 star t₄)) → t ≡ paste t₄ star last (length last) → Front (summed_up (opening ds bs)) s t
    unfolding summed_up
    all_laid y p₅ =
        let w = before_star in
        let sum : part 1 star t₄ ≡ drop 1 w = ap (part 1 star) stands ∙ part_tail w (drop (length w) s) star star_there in
        let z : w ++ last ≡ summed_up (opening ds bs) = ap (λ q. w ++ q) (y ∙ ap (λ q. closing_of (xor_of q)) sum) ∙ ap (λ o. o ++ closing_of (xor_of (drop 1 o))) is_opening in
        front_put w last s t₄ star star_there stands p₅ ∙ ap (λ q. q ++ drop (length q) s) z
