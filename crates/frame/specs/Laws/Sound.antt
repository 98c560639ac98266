-- A serial frame is sound: what its fields accept has its `$`, its letters and its length where the first tests look. Assumes nothing.
use Rattle.std.specs.Prelude.{◌≡◌, refl, Bool, true, false, cond, ◌&&◌, ℕ, ◌+◌, ◌-◌, ◌*◌, ◌≤◌, ◌<◌, zero, suc, leb, eqb, take, drop}
use Rattle.std.proofs.Math.Path.{sym, ap, subst}
use Rattle.std.proofs.Common.{◌∙◌, arith, length-take-le, drop-drop}
use Rattle.std.proofs.Math.Bool.{and-true}
use mathlib.Core.List.{List, [], ◌∷◌}
use Rattle.std.proofs.Math.ListN.{length, get_or, length-drop}
use borrow.Author.Tests.{le-leb, leb-true, eq-eqb}
use Rattle.bits.specs.Bits.{value_of, bits_of, field_at}
use Rattle.bits.specs.Laws.Bytes.{length_bits}
use Rattle.bits.specs.Laws.Fields.{field_front}
use Rattle.format.specs.Fmt.{accepted, Fault, good, bad, Fmt, read}
use Rattle.format.specs.Message.{Sound, body, seal_fault, first_of}
use Rattle.format.specs.Laws.First.{opened}
use Rattle.format.specs.Laws.Legal.{Legal, exactly}
use Rattle.format.proofs.Laws.Legal.{legal}
use Rattle.format.proofs.Laws.Round.{read_write}
use Rattle.frame.specs.Frame.{frame, frames, leads}

module _ (letters lo hi : ℕ) (f : Fmt) where
  -- the head's values are the fields where they stand
  pub record Headed (b : List Bool) (vs : List ℕ) : Type 0 where
    pub rest : List ℕ
    pub own : ℕ
    pub values : vs ≡ 0x24 ∷ letters ∷ value_of (take 16 (drop 40 b)) ∷ own ∷ rest
    pub dollar : value_of (take 8 b) ≡ 0x24
    pub named : value_of (take 32 (drop 8 b)) ≡ letters
    pub long : 80 ≤ length b

  pub head_values : (b : List Bool) (vs : List ℕ) → read (frame letters lo hi f) [] 0 b ≡ accepted vs → Headed b vs
  unfolding read
  head_values b vs e =
      let o1 = opened 8 _ [] 0 b _ vs e in
      let o2 = opened 32 _ _ 8 (drop 8 b) _ o1.rest o1.after in
      let o3 = opened 16 _ _ 40 (drop 32 (drop 8 b)) _ o2.rest o2.after in
      let o4 = opened 24 _ _ 56 (drop 16 (drop 32 (drop 8 b))) _ o3.rest o3.after in
      let all = o1.front ∙ ap (value_of (take 8 b) ∷◌) (o2.front ∙ ap (value_of (take 32 (drop 8 b)) ∷◌) (o3.front ∙ ap (value_of (take 16 (drop 32 (drop 8 b))) ∷◌) o4.front)) in
      let g = subst (Legal (frame letters lo hi f) []) all (legal (frame letters lo hi f) [] 0 vs b (read_write (frame letters lo hi f) [] 0 vs b e)) in
      let dollar = exactly 8 1 0x24 [] (value_of (take 8 b)) g.0 g.1 in
      let named = exactly 32 1 letters _ (value_of (take 32 (drop 8 b))) g.2.0 g.2.1 in
      let length = ap (λ x. value_of (take 16 x)) (drop-drop 32 8 b) in
      let own = value_of (take 24 (drop 16 (drop 32 (drop 8 b)))) in
      record {
        rest = o4.rest;
        own = own;
        values = all ∙ (λ i. dollar i ∷ named i ∷ length i ∷ own ∷ o4.rest);
        dollar = dollar;
        named = named;
        long = omega (arith, o4.there, length-drop 16 (drop 32 (drop 8 b)), length-drop 32 (drop 8 b), length-drop 8 b);
      }

  -- The frame is sound if its length is that of its fields and the seal, and at least 12.
  pub frame_sound : (least most : ℕ) → 0 < least → ((b : List Bool) (vs : List ℕ) → read (frame letters lo hi f) [] 0 b ≡ accepted vs → (get_or vs 2 0 * 8 ≡ length b + 8) × (12 ≤ get_or vs 2 0))
      → Sound (frames letters least most (frame letters lo hi f))
  unfolding leads field_at
  frame_sound least most some long = record {
    sized = λ s vs e.
        let b = bits_of (take (length s - 1) s) in
        let x = head_values b vs e in
        let declares : get_or vs 2 0 ≡ value_of (take 16 (drop 40 b)) = ap (λ vs. get_or vs 2 0) x.values in
        let (whole, least) = long b vs e in
        let n : length b ≡ (length s - 1) * 8 = length_bits (take (length s - 1) s) ∙ ap (◌* 8) (length-take-le (length s - 1) s (omega arith)) in
        let size : field_at s 40 16 ≡ length s = sym (field_front s (length s - 1) 40 16 (omega arith) (omega (arith, x.long, n))) ∙ sym declares ∙ omega (arith, whole, n, least, x.long) in
        let dollar : field_at s 0 8 ≡ 0x24 = sym (field_front s (length s - 1) 0 8 (omega arith) (omega (arith, x.long, n))) ∙ x.dollar in
        let named : field_at s 8 32 ≡ letters = sym (field_front s (length s - 1) 8 32 (omega arith) (omega (arith, x.long, n))) ∙ x.named in
        rw (le-leb 12 (length s) (omega (arith, whole, n, least, x.long)), eq-eqb (field_at s 0 8) 0x24 dollar, eq-eqb (field_at s 8 32) letters named, eq-eqb (field_at s 40 16) (length s) size, and-true) refl;
    kinds = λ b vs e. refl;
    stays = λ vs i v p w e. refl;
    some = λ e. some;
  }

-- ---- a frame of one size

leads_size : (letters n : ℕ) (s : List ℕ) → leads letters n n s ≡ 0 → length s ≡ n
unfolding leads
leads_size letters n s e = go (leb 12 (length s)) (eqb (field_at s 0 8) 0x24 && eqb (field_at s 8 32) letters) (leb n (length s)) (leb (length s) n) (eqb (field_at s 40 16) (length s)) refl refl e
  where
    go : (v w x y z : Bool) → leb n (length s) ≡ x → leb (length s) n ≡ y → ◌≡◌ {A = ℕ} (cond v (cond w (cond ((x && y) && z) 0 1) 2) 1) 0 → length s ≡ n
    go true true true true z ex ey k = let a = leb-true n (length s) ex in let b = leb-true (length s) n ey in omega arith
    go true true true false z ex ey k = absurd (omega (arith, k))
    go true true false y z ex ey k = absurd (omega (arith, k))
    go true false x y z ex ey k = absurd (omega (arith, k))
    go false w x y z ex ey k = absurd (omega (arith, k))

-- Where the first tests pass, what they leave to the fields has all bytes but the seal.
pub first_size : (letters n : ℕ) (s : List ℕ) {b : List ℕ} → 0 ≡ first_of (seal_fault true s) (leads letters n n s) → b ≡ body true s → length b ≡ n - 1
first_size letters n s e is =
    let l = leads_size letters n s (go (seal_fault true s) (leads letters n n s) (sym e)) in
    ap length is ∙ length-take-le (length s - 1) s (omega arith) ∙ ap (◌- 1) l
  where
    go : (x : Fault) (c : ℕ) → first_of x c ≡ 0 → c ≡ 0
    go good c e = e
    go (bad d i) zero e = refl
    go (bad d i) (suc c) e = e
