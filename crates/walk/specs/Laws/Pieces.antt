-- The code judges a field made of parts as the layout's judge does, by the bits that there are: part by part from the highest bits down, up to the first refusal. Assumes nothing.
use Rattle.std.specs.Prelude.{◌≡◌, ℕ, zero, suc, ◌+◌, ◌-◌, ◌/◌, ◌%◌, ◌^◌, ◌<◌, ◌≤◌, Bool, true, false, cond, ◌&&◌, List, [], ◌∷◌, length, take, drop, ◌==◌, ◌≢◌, nat_le, nat_lt, refl}
use Rattle.std.proofs.Common.{sym, ap, ap₂, ◌∙◌, arith, length-drop, pow_pos, take_at, drop_at, le-leb, le-ltb, lt-ltb, leb-true, ltb-true, ltb-false, ne_eqb, eqb-true}
use Rattle.std.proofs.Math.Bool.{and-false}
use Rattle.std.proofs.lemmas.Bool.{false≢true}
use Rattle.bits.specs.Bits.{value_of, digits}
use Rattle.bits.specs.Laws.Digits.{length_digits, digits_add, value_digits, value_digits_mod}
use Rattle.format.specs.Fmt.{Out, Fault, good, bad, or_bad, Judge, Fmt, field}
use Rattle.format.specs.Words.{Part, part, walk, wide, or_else, unless, or_zero}
use Rattle.format.specs.Laws.Extent.{opens_field}
use Rattle.format.specs.Laws.Tells.{wrong, blamed}
use Rattle.format.specs.Laws.Zero.{Coded}
use Rattle.walk.specs.Pieces.{unpieced, ahead, pieced, piecewise, unless_zero}
use Rattle.walk.specs.Reading.{group_judged}
use Rattle.walk.specs.Laws.Judging.{Judging, judge}
use Rattle.walk.specs.Pieces.{Pieces}
use Rattle.walk.specs.Walk.{Walk}

-- ---- what parts leave as it is

pub piecewise_v : (ps : List Part) (h : List ℕ) (g : Pieces) → (piecewise ps h g).v ≡ g.v
unfolding piecewise pieced
piecewise_v [] h g = refl
piecewise_v (part w c t ∷ ps) h g = piecewise_v ps (ahead w g ∷ h) (pieced w c (t h) g)

pub piecewise_width : (ps : List Part) (h : List ℕ) (g : Pieces) → (piecewise ps h g).width ≡ g.width
unfolding piecewise pieced
piecewise_width [] h g = refl
piecewise_width (part w c t ∷ ps) h g = piecewise_width ps (ahead w g ∷ h) (pieced w c (t h) g)

pub piecewise_into : (ps : List Part) (h : List ℕ) (g : Pieces) → g.into ≤ g.width → (piecewise ps h g).into ≤ g.width
unfolding piecewise pieced
piecewise_into [] h g l = l
piecewise_into (part w c t ∷ ps) h g l = piecewise_into ps (ahead w g ∷ h) (pieced w c (t h) g) (go (g.code == 0))
  where
    go : (x : Bool) → cond x (g.width - g.left) g.into ≤ g.width
    go true = omega arith
    go false = l

-- behind a refusal nothing is judged
pub piece_stuck : (w c : ℕ) (ok : ℕ → Bool) (g : Pieces) → (g.code ≢ 0) → pieced w c ok g ≡ g
unfolding pieced
piece_stuck w c ok g n = rw (ne_eqb g.code 0 n) refl

pub piecewise_stuck : (ps : List Part) (h : List ℕ) (g : Pieces) → (g.code ≢ 0) → piecewise ps h g ≡ g
unfolding piecewise
piecewise_stuck [] h g n = refl
piecewise_stuck (part w c t ∷ ps) h g n = ap (piecewise ps (ahead w g ∷ h)) (piece_stuck w c (t h) g n) ∙ piecewise_stuck ps (ahead w g ∷ h) g n

-- ---- the parts of the bits that there are

-- a part's bits are the next of the number
module _ (w k v : ℕ) where
  piece_first : value_of (take w (digits (w + k) v)) ≡ v / 2 ^ k % 2 ^ w
  piece_first =
      ap (λ l. value_of (take w l)) (digits_add w k v)
      ∙ ap value_of (take_at (digits w (v / 2 ^ k)) (digits k v) w (length_digits w (v / 2 ^ k))) ∙ value_digits_mod w (v / 2 ^ k)

  piece_rest : drop w (digits (w + k) v) ≡ digits k v
  piece_rest = ap (drop w) (digits_add w k v) ∙ drop_at (digits w (v / 2 ^ k)) (digits k v) w (length_digits w (v / 2 ^ k))

-- g has n bits of v to judge, the first of them i bits in
record Standing (i n v : ℕ) (g : Pieces) : Type 0 where
  clear : g.code ≡ 0
  left : g.left ≡ n
  width : g.width ≡ i + n
  value : g.v ≡ v

blame : (c i : ℕ) → (c ≢ 0) → blamed c i ≡ bad c i
blame zero i n = absurd (n refl)
blame (suc c) i n = refl

walk_pieces : (ps : List Part) (i : ℕ) (h : List ℕ) (n v : ℕ) (g : Pieces) → Coded ps → Standing i n v g → walk ps i h (digits n v) ≡ blamed (piecewise ps h g).code (piecewise ps h g).into
unfolding walk piecewise pieced
walk_pieces [] i h n v g z e = sym (ap (λ c. blamed c g.into) e.clear)
walk_pieces (part w c t ∷ ps) i h n v g z e = go (nat_le w n) refl (t h u) refl (λ x. walk_pieces ps (i + w) (u ∷ h) (n - w) v next z.1 x)
  where
    u : ℕ
    u = ahead w g

    next : Pieces
    next = pieced w c (t h) g

    rest : Fault
    rest = walk ps (i + w) (value_of (take w (digits n v)) ∷ h) (drop w (digits n v))

    offset : g.width - g.left ≡ i
    offset = omega (arith, e.left, e.width)

    says : walk (part w c t ∷ ps) i h (digits n v) ≡ or_else (unless (nat_le w n) 1 i) (or_else (unless (t h (value_of (take w (digits n v)))) c i) rest)
    says = rw (length_digits n v) refl

    -- a refused part ends it
    ends : (d : ℕ) → (d ≢ 0) → next.code ≡ d → next.into ≡ i → bad d i ≡ blamed (piecewise ps (u ∷ h) next).code (piecewise ps (u ∷ h) next).into
    ends d nz x y = sym (ap (λ (g : Pieces). blamed g.code g.into) (piecewise_stuck ps (u ∷ h) next (λ z. nz (sym x ∙ z))) ∙ ap₂ blamed x y ∙ blame d i nz)

    first : w ≤ n → (value_of (take w (digits n v)) ≡ u) × (drop w (digits n v) ≡ digits (n - w) v)
    first l =
        let m : n ≡ w + (n - w) = omega arith in (
          ap (λ n. value_of (take w (digits n v))) m ∙ piece_first w (n - w) v ∙ ap₂ (λ a b. a / 2 ^ (b - w) % 2 ^ w) (sym e.value) (sym e.left),
          ap (λ n. drop w (digits n v)) m ∙ piece_rest w (n - w) v,
        )

    after : w ≤ n → t h u ≡ true → Standing (i + w) (n - w) v next
    after l y = record {
      clear = rw (e.clear, y, e.left, le-leb w n l) refl;
      left = rw (e.clear, e.left) refl;
      width = omega (arith, e.width);
      value = e.value;
    }

    go : (x : Bool) → nat_le w n ≡ x → (y : Bool) → t h u ≡ y
        → (Standing (i + w) (n - w) v next → walk ps (i + w) (u ∷ h) (digits (n - w) v) ≡ blamed (piecewise ps (u ∷ h) next).code (piecewise ps (u ∷ h) next).into)
        → walk (part w c t ∷ ps) i h (digits n v) ≡ blamed (piecewise ps (u ∷ h) next).code (piecewise ps (u ∷ h) next).into
    go false x y q k = says ∙ rw x refl ∙ ends 1 (λ z. omega arith) (rw (e.clear, e.left, x) refl) (rw e.clear offset)
    go true x false q k =
        let (a, b) = first (leb-true w n x) in
        says ∙ rw (x, a, q) refl ∙ ends c z.0 (rw (e.clear, q, e.left, x) refl) (rw e.clear offset)
    go true x true q k =
        let (a, b) = first (leb-true w n x) in
        says ∙ rw (x, a, q) (ap (walk ps (i + w) (u ∷ h)) b) ∙ k (after (leb-true w n x) q)

-- where all parts are good, all are there
parts_there : (ps : List Part) (i : ℕ) (h : List ℕ) (b : List Bool) → walk ps i h b ≡ good → wide ps ≤ length b
unfolding walk wide
parts_there [] i h b e = omega arith
parts_there (part w c t ∷ ps) i h b e = go (nat_le w (length b)) refl (t h (value_of (take w b))) (walk ps (i + w) (value_of (take w b) ∷ h) (drop w b)) (λ x. parts_there ps (i + w) (value_of (take w b) ∷ h) (drop w b) x) e
  where
    go : (x : Bool) → nat_le w (length b) ≡ x → (y : Bool) (z : Fault) → (z ≡ good → wide ps ≤ length (drop w b)) → or_else (unless x 1 i) (or_else (unless y c i) z) ≡ good → w + wide ps ≤ length b
    go false ex y z k e = let q : ◌≡◌ {A = ℕ} 0 1 = cc in absurd (omega arith)
    go true ex false z k e = let q : ◌≡◌ {A = ℕ} 0 1 = cc in absurd (omega arith)
    go true ex true z k e = let l = leb-true w (length b) ex in omega (arith, k e, length-drop w b)

-- ---- a field made of parts

-- What `judge` finds in the bits that there are, at most w, is what j says of them; a number that is too wide is 4 at its first bit.
pub record Matches (j : List Bool → Fault) (w : ℕ) (judge : Pieces → Pieces) : Type 0 where
  pub so : (n v : ℕ) → n ≤ w → v < 2 ^ n → j (digits n v) ≡ blamed (judge (unpieced n v)).code (judge (unpieced n v)).into
  pub inner : (n v : ℕ) → (judge (unpieced n v)).into ≤ n
  pub there : (b : List Bool) → j b ≡ good → w ≤ length b
  pub beyond : (v : ℕ) → 2 ^ w ≤ v → ((judge (unpieced w v)).code ≡ 4) × ((judge (unpieced w v)).into ≡ 0)

pub parts_match : (ps : List Part) (h : List ℕ) (w : ℕ) → Coded ps → wide ps ≡ w → Matches (walk ps 0 h) w (piecewise ps h)
parts_match ps h w z all = record {
  so = λ n v l f. walk_pieces ps 0 h n v (unpieced n v) z (record { clear = rw (lt-ltb v (2 ^ n) f) refl; left = refl; width = omega arith; value = refl });
  inner = λ n v. piecewise_into ps h (unpieced n v) (omega arith);
  there = λ b e. omega (arith, all, parts_there ps 0 h b e);
  beyond = λ v l.
      let four : (unpieced w v).code ≡ 4 = rw (le-ltb v (2 ^ w) l) refl in
      let is = piecewise_stuck ps h (unpieced w v) (λ z. omega (arith, z, four)) in
      (ap (λ (g : Pieces). g.code) is ∙ four, ap (λ (g : Pieces). g.into) is);
}

-- w zero bits are good too
pub zero_match : (j : Judge) (h : List ℕ) {w : ℕ} {judge : Pieces → Pieces} → ((n v : ℕ) → ((judge (unpieced n v)).v ≡ v) × ((judge (unpieced n v)).width ≡ n)) → Matches (j h) w judge
    → Matches (or_zero w j h) w (λ g. unless_zero w (judge g))
unfolding or_zero
zero_match j h {w} {judge} kept e = record {
  so = λ n v l f. go n v f (n == w && v == 0) refl (e.so n v l f);
  inner = e.inner;
  there = λ b x. good_there b (length b == w && value_of b == 0) refl x;
  beyond = λ v l. (
    rw ((kept w v).0, (kept w v).1, ne_eqb v 0 (λ z. omega (arith, l, pow_pos w)), and-false) (e.beyond v l).0,
    (e.beyond v l).1,
  );
}
  where
    go : (n v : ℕ) → v < 2 ^ n → (x : Bool) → (n == w && v == 0) ≡ x → j h (digits n v) ≡ blamed (judge (unpieced n v)).code (judge (unpieced n v)).into
        → or_zero w j h (digits n v) ≡ blamed (cond ((judge (unpieced n v)).width == w && (judge (unpieced n v)).v == 0) 0 (judge (unpieced n v)).code) (judge (unpieced n v)).into
    go n v f true x y = rw (length_digits n v, value_digits n f, x, (kept n v).0, (kept n v).1, x) refl
    go n v f false x y = rw (length_digits n v, value_digits n f, x, (kept n v).0, (kept n v).1, x) y

    good_there : (b : List Bool) (x : Bool) → (length b == w && value_of b == 0) ≡ x → or_zero w j h b ≡ good → w ≤ length b
    good_there b true x y = whole (length b == w) refl x
      where
        whole : (t : Bool) → (length b == w) ≡ t → (t && value_of b == 0) ≡ true → w ≤ length b
        whole true t x = omega (arith, eqb-true (length b) w t)
        whole false t x = absurd (false≢true x)
    good_there b false x y = e.there b (sym (rw x refl) ∙ y)

-- a record's value
group_wrong : {j : List Bool → Fault} {w : ℕ} {judge : Pieces → Pieces} → Matches j w judge → (v : ℕ) → wrong w j v ≡ blamed (judge (unpieced w v)).code (judge (unpieced w v)).into
group_wrong {j} {w} {judge} e v = go (nat_lt v (2 ^ w)) refl
  where
    go : (t : Bool) → nat_lt v (2 ^ w) ≡ t → wrong w j v ≡ blamed (judge (unpieced w v)).code (judge (unpieced w v)).into
    go true t = ap (λ b. or_else (or_bad b 4) (j (digits w v))) t ∙ e.so w v (omega arith) (ltb-true v (2 ^ w) t)
    go false t = let (a, b) = e.beyond v (ltb-false v (2 ^ w) t) in ap (λ b. or_else (or_bad b 4) (j (digits w v))) t ∙ sym (ap₂ blamed a b)

pub judge_group : {o : Out (List Bool)} {f : Fmt} {h : List ℕ} {at v : ℕ} {vs : List ℕ} {r p : Walk} {w : ℕ} {j : Judge} {m : List ℕ → Bool} {judge : Pieces → Pieces} → at + w < 2 ^ 64 → Matches (j h) w judge
    → Judging o (field w j m f) h at (v ∷ vs) r → p ≡ group_judged w judge v r → Judging o f (v ∷ h) (at + w) vs p
judge_group {v = v} {w = w} {judge = J} reach x e d = judge true v (J (unpieced w v)).code (J (unpieced w v)).into (x.inner w v) reach opens_field (group_wrong x v) e d
