-- What stands in a counted group, stored in a row one behind another: one item more at the end, by induction on those before. And what a row of the group's numbers tells. Assumes nothing.
use Rattle.std.specs.Prelude.{◌≡◌, ℕ, zero, suc, ◌+◌, ◌*◌, ◌<◌, ◌≤◌, List, [], ◌∷◌, ◌++◌, length, drop, slice_set, refl}
use Rattle.std.proofs.Common.{sym, ap, ap₂, ◌∙◌, append_assoc, append-nil, add-one, arith, zero-add, add-zero, add_assoc, length-append, drop_at}
use Rattle.std.proofs.lemmas.List.Edits.{sets}
use Rattle.format.specs.Groups.{Measure, repeat_told}
use Rattle.walk.specs.Groups.{Width, repeat_at, repeat_end, repeat_sum}

module _ {A : Type 0} where
  sets_then : (l : List A) (i : ℕ) (us vs : List A) → sets (sets l i us) (i + length us) vs ≡ sets l i (us ++ vs)
  sets_then l i [] vs = let e : i + 0 ≡ i = omega arith in ap (λ k. sets l k vs) e
  sets_then l i (u ∷ us) vs =
      let e : i + suc (length us) ≡ suc i + length us = omega arith in
      ap (λ k. sets (sets (slice_set l i u) (suc i) us) k vs) e ∙ sets_then (slice_set l i u) (suc i) us vs

  -- where the first end at k
  pub sets_on : (l : List A) (i : ℕ) (us vs : List A) {k : ℕ} → k ≡ i + length us → sets (sets l i us) k vs ≡ sets l i (us ++ vs)
  sets_on l i us vs e = ap (λ k. sets (sets l i us) k vs) e ∙ sets_then l i us vs

-- ---- one item more

pub end_more : (n : ℕ) (wa : Width) (at : ℕ) → repeat_end (suc n) wa at ≡ repeat_end n wa at + wa (repeat_end n wa at)
unfolding repeat_end
end_more zero wa at = refl
end_more (suc n) wa at = end_more n wa (at + wa at)

pub repeat_more : {A : Type 0} (n : ℕ) (a : ℕ → List A) (wa : Width) (at : ℕ) → repeat_at (suc n) a wa at ≡ repeat_at n a wa at ++ a (repeat_end n wa at)
unfolding repeat_at repeat_end
repeat_more zero a wa at = append-nil (a at)
repeat_more (suc n) a wa at = let to = at + wa at in ap (a at ++◌) (repeat_more n a wa to) ∙ sym (append_assoc (a at) (repeat_at n a wa to) (a (repeat_end n wa to)))

pub sum_more : (n : ℕ) (f : ℕ → ℕ) (wa : Width) (at : ℕ) → repeat_sum (suc n) f wa at ≡ repeat_sum n f wa at + f (repeat_end n wa at)
unfolding repeat_sum repeat_end
sum_more zero f wa at = add-zero (f at) ∙ sym (zero-add (f at))
sum_more (suc n) f wa at = let to = at + wa at in ap (f at +◌) (sum_more n f wa to) ∙ sym (add_assoc (f at) (repeat_sum n f wa to) (f (repeat_end n wa to)))

-- the items have as many numbers together as stand there
pub sum_long : {A : Type 0} (n : ℕ) (f : ℕ → ℕ) (a : ℕ → List A) (wa : Width) (at : ℕ) → ((at : ℕ) → f at ≡ length (a at)) → repeat_sum n f wa at ≡ length (repeat_at n a wa at)
unfolding repeat_sum repeat_at
sum_long zero f a wa at e = refl
sum_long (suc n) f a wa at e = ap₂ ◌+◌ (e at) (sum_long n f a wa (at + wa at) e) ∙ sym (length-append (a at) (repeat_at n a wa (at + wa at)))

-- the numbers of one item more are among those of n
pub item_within : {A : Type 0} (i n : ℕ) (a : ℕ → List A) (wa : Width) (at : ℕ) → i < n → length (repeat_at i a wa at) + length (a (repeat_end i wa at)) ≤ length (repeat_at n a wa at)
unfolding repeat_at repeat_end
item_within i zero a wa at h = absurd (omega arith)
item_within zero (suc n) a wa at h = omega (arith, length-append (a at) (repeat_at n a wa (at + wa at)))
item_within (suc i) (suc n) a wa at h =
    let to = at + wa at in
    let e = item_within i n a wa to (omega arith) in
    omega (arith, e, length-append (a at) (repeat_at i a wa to), length-append (a at) (repeat_at n a wa to))

-- where i numbers of the row are stored
pub stored_turn : {A : Type 0} (row : List A) {now : List A} (k : ℕ) (a : ℕ → List A) (wa : Width) (at n i : ℕ) {m : ℕ} {t : List A} → m ≡ n + 1 → i ≡ k + length (repeat_at n a wa at) → now ≡ sets row k (repeat_at n a wa at)
    → t ≡ sets now i (a (repeat_end n wa at)) → t ≡ sets row k (repeat_at m a wa at)
stored_turn row k a wa at n i is here e d =
    d ∙ ap (λ l. sets l i (a (repeat_end n wa at))) e ∙ sets_on row k (repeat_at n a wa at) (a (repeat_end n wa at)) here
    ∙ ap (sets row k) (sym (repeat_more n a wa at) ∙ ap (λ n. repeat_at n a wa at) (sym (add-one n) ∙ sym is))

-- ---- items of one size

pub even_end : (w n at : ℕ) → repeat_end n (λ a. w) at ≡ at + n * w
unfolding repeat_end
even_end w zero at = omega arith
even_end w (suc n) at = omega (arith, even_end w n (at + w))

pub even_long : {A : Type 0} (l w n : ℕ) (a : ℕ → List A) (at : ℕ) → ((at : ℕ) → length (a at) ≡ l) → length (repeat_at n a (λ at. w) at) ≡ n * l
unfolding repeat_at
even_long l w zero a at e = omega arith
even_long l w (suc n) a at e = omega (arith, e at, even_long l w n a (at + w) e, length-append (a at) (repeat_at n a (λ at. w) (at + w)))

-- ---- what the numbers that stand there tell: `f` of an item's tells what `g` says of its bits

pub told_stands : {A : Type 0} (long : Measure) (f : List ℕ → List A) (a : ℕ → List ℕ) (g : ℕ → List A) (wa : Width) → ((at : ℕ) (l : List ℕ) → (f (a at ++ l) ≡ g at) × (drop (long (a at ++ l)) (a at ++ l) ≡ l))
    → (n at : ℕ) (l : List ℕ) → repeat_told long n f (repeat_at n a wa at ++ l) ≡ repeat_at n g wa at
unfolding repeat_told repeat_at
told_stands long f a g wa e zero at l = refl
told_stands long f a g wa e (suc n) at l =
    let to = at + wa at in
    let rest = repeat_at n a wa to ++ l in
    ap (λ row. f row ++ repeat_told long n f (drop (long row) row)) (append_assoc (a at) (repeat_at n a wa to) l)
    ∙ ap₂ ◌++◌ (e at rest).0 (ap (repeat_told long n f) (e at rest).1 ∙ told_stands long f a g wa e n to l)

-- items of one size
pub even_stands : {A : Type 0} (l w : ℕ) (f : List ℕ → List A) (a : ℕ → List ℕ) (g : ℕ → List A) → ((at : ℕ) → length (a at) ≡ l) → ((at : ℕ) (row : List ℕ) → f (a at ++ row) ≡ g at)
    → (n at : ℕ) (row : List ℕ) → repeat_told (λ r. l) n f (repeat_at n a (λ at. w) at ++ row) ≡ repeat_at n g (λ at. w) at
even_stands l w f a g long e n at row = told_stands (λ r. l) f a g (λ at. w) (λ at row. (e at row, drop_at (a at) row l (long at))) n at row
