-- No line end, no other control character and no 0x7F is in a text of either language: each byte of a text is plain or belongs to a pair of level one, by the definitions' own cases. Assumes nothing.
use Rattle.std.specs.Prelude.{Bool, true, false, ◌&&◌, cond, List, [], ◌∷◌, ◌≡◌, refl, ℕ, zero, suc, ◌≤◌, ◌<◌, leb, eqb, length, get_or}
use Rattle.std.proofs.Math.Bool.{and-eq-true_iff}
use Rattle.std.proofs.Common.{arith, leb-true}
use Rattle.text.specs.Text.{plain, level_one, english, chinese, in_language}

-- x is no control character: 0x20 to 0x7E, or above 0x7F
abbrev Printing : ℕ → Type 0
Printing x = (0x20 ≤ x) × (x ≡ 0x7F → ⊥)

-- no byte of t is a control character
abbrev Clean : List ℕ → Type 0
Clean t = (i : ℕ) → i < length t → Printing (get_or t i 0)

plain_printing : (x : ℕ) → plain x ≡ true → Printing x
plain_printing x h =
    let p = (and-eq-true_iff _ _).0 h in
    let low = leb-true _ x p.0 in
    let high = leb-true x _ p.1 in
    (omega arith, λ e. omega arith)

pair_printing : (x y : ℕ) → level_one x y ≡ true → Printing x × Printing y
unfolding level_one
pair_printing x y h =
    let p = (and-eq-true_iff (leb 0xB0 x && leb x 0xD7 && leb 0xA1 y) (leb y (cond (eqb x 0xD7) 0xF9 0xFE))).0 h in
    let q = (and-eq-true_iff (leb 0xB0 x && leb x 0xD7) (leb 0xA1 y)).0 p.0 in
    let r = (and-eq-true_iff (leb 0xB0 x) (leb x 0xD7)).0 q.0 in
    let first = leb-true 0xB0 x r.0 in
    let second = leb-true 0xA1 y q.1 in
    ((omega arith, λ e. omega arith), (omega arith, λ e. omega arith))

clean_none : Clean []
clean_none i h = absurd (omega arith)

clean_more : (x : ℕ) (t : List ℕ) → Printing x → Clean t → Clean (x ∷ t)
clean_more x t p r zero h = p
clean_more x t p r (suc i) h = r i (omega arith)

english_clean : (t : List ℕ) → english t ≡ true → Clean t
unfolding english
english_clean [] h = clean_none
english_clean (x ∷ t) h =
    let p = (and-eq-true_iff (plain x) (english t)).0 h in
    clean_more x t (plain_printing x p.0) (english_clean t p.1)

-- either way that a text goes on from its first byte
goes_on : (x y : ℕ) (t : List ℕ) (p : Bool) → plain x ≡ p → cond p (chinese (y ∷ t)) (level_one x y && chinese t) ≡ true
    → (chinese (y ∷ t) ≡ true → Clean (y ∷ t)) → (chinese t ≡ true → Clean t) → Clean (x ∷ y ∷ t)
goes_on x y t true e h one two = clean_more x (y ∷ t) (plain_printing x e) (one h)
goes_on x y t false e h one two =
    let p = (and-eq-true_iff (level_one x y) (chinese t)).0 h in
    let q = pair_printing x y p.0 in
    clean_more x (y ∷ t) q.0 (clean_more y t q.1 (two p.1))

chinese_clean : (t : List ℕ) → chinese t ≡ true → Clean t
unfolding chinese
chinese_clean [] h = clean_none
chinese_clean (x ∷ []) h = clean_more x [] (plain_printing x h) clean_none
chinese_clean (x ∷ y ∷ t) h = goes_on x y t (plain x) refl h (λ q. chinese_clean (y ∷ t) q) (λ q. chinese_clean t q)

clean : (e : Bool) (t : List ℕ) → in_language e t ≡ true → Clean t
unfolding in_language
clean true t h = english_clean t h
clean false t h = chinese_clean t h

-- no line end passes: every byte of a text is at least 0x20
pub no_line_end : (e : Bool) (t : List ℕ) → in_language e t ≡ true → (i : ℕ) → i < length t → 0x20 ≤ get_or t i 0
no_line_end e t h i l = (clean e t h i l).0

-- nor does 0x7F
pub no_delete : (e : Bool) (t : List ℕ) → in_language e t ≡ true → (i : ℕ) → i < length t → get_or t i 0 ≡ 0x7F → ⊥
no_delete e t h i l = (clean e t h i l).1
