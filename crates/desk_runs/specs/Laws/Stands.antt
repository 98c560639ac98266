-- One open place against the packets that have come: each number's content stands in its cell, and its size in the place. Shown anew for a packet that is put in. Assumes nothing.
use Rattle.std.specs.Prelude.{◌≡◌, Bool, not, ◌&&◌, ◌||◌, ◌⊎◌, leb, ltb, eqb, length, get_or, set, take, drop}
use Rattle.std.proofs.Math.Path.{refl, ap₂}
use Rattle.std.proofs.Common.{sym, ap, ◌∙◌, inl, inr, arith, length-set, get_or-set_same, get_or-set_other, eqb-true, eq-eqb, ne_eqb, le-leb, lt-ltb}
use Rattle.std.proofs.Math.Bool.{true, false, cond}
use mathlib.Core.List.Memᴰ
use mathlib.Core.List.{List, [], ◌∷◌, ◌++◌, Memᴰ}
use Prim.Native.Nat.{ℕ, zero, suc, ◌+◌, ◌≤◌, ◌<◌}
use Rattle.std.proofs.lemmas.Bool.{eqb-false}
use Rattle.format.specs.Message.{between}
use Rattle.packet.specs.Packet.{most_packets, part_bytes_of}
use Rattle.places.specs.Places.{every_below, held, lacks, entry_good, good_place}
use Rattle.places.specs.Desk.{cell, in_cell_of, laid, missing_below, joined_below}
use Rattle.places.specs.declared.Place.{Place}
use Rattle.places.specs.Laws.Below.{each_every, some_every}
use Rattle.places.specs.Laws.Laid.{laid_there, other_cell}
use Rattle.desk_runs.specs.Runs.{Part, came, content_of, not_come, in_order_of}
use Rattle.desk_runs.specs.Laws.Parts.{Member, Members, member_of, content_cons, came_content, content_few, content_below}

-- place i is p, and the packets xs of its notice have come
pub record Stands (s : List ℕ) (i : ℕ) (p : Place) (xs : List Part) : Type 0 where
  pub some : 1 ≤ length xs
  pub members : Members p.total p.language xs
  -- packets of one number have one content
  pub agreed : (y : Part) → Memᴰ y xs → content_of xs y.0.own ≡ y.1
  pub row : length p.sizes ≡ most_packets
  pub sizes : (k : ℕ) → held p k ≡ length (content_of xs k)
  pub cells : (k : ℕ) → take (length (content_of xs k)) (drop (cell i k) s) ≡ content_of xs k

-- ---- what the definitions find there

module _ {s : List ℕ} {i : ℕ} {p : Place} {xs : List Part} (x : Stands s i p xs) where
  pub in_cell : (k : ℕ) → in_cell_of s i p k ≡ content_of xs k
  in_cell k = rw (x.sizes k) (x.cells k)

  pub lacks_came : (k : ℕ) → lacks p k ≡ not (came xs k)
  lacks_came k = rw (x.sizes k) (came_content p.total p.language xs x.members k)

  pub missing_is : (t : ℕ) → missing_below t p ≡ not_come t xs
  unfolding missing_below not_come
  missing_is zero = refl
  missing_is (suc t) = ap₂ ◌++◌ (missing_is t) (ap (λ y. cond y (t ∷ []) []) (lacks_came t) ∙ go (came xs t))
    where
      go : (y : Bool) → cond (not y) (t ∷ []) [] ≡ cond y [] (t ∷ [])
      go true = refl
      go false = refl

  pub joined_is : (t : ℕ) → joined_below t s i p ≡ in_order_of t xs
  unfolding joined_below in_order_of
  joined_is zero = refl
  joined_is (suc t) = ap₂ ◌++◌ (joined_is t) (in_cell t)

  -- the desk's tests pass it
  good_entry : (k : ℕ) → entry_good p k ≡ true
  good_entry k = go (lacks p k) refl
    where
      go : (y : Bool) → lacks p k ≡ y → (y || (ltb k p.total && leb (held p k) part_bytes_of)) ≡ true
      go true e = refl
      go false e =
          let size = x.sizes k in
          let full = eqb-false (held p k) 0 e in
          let b = content_below p.total p.language xs x.members k (omega arith) in
          let f = content_few p.total p.language xs x.members k in
          rw (lt-ltb k p.total b.0, le-leb (held p k) part_bytes_of (omega arith)) refl

pub good_place_lem : {s : List ℕ} {i : ℕ} {p : Place} {xs : List Part} → Stands s i p xs → good_place p ≡ true
unfolding good_place
good_place_lem {s} {i} {p} {xs} x = go xs x x.members
  where
    go : (ys : List Part) → Stands s i p ys → Members p.total p.language ys → (between 1 most_packets p.total && (not (every_below most_packets (lacks p)) && every_below most_packets (entry_good p))) ≡ true
    go [] y ms = absurd (omega (arith, y.some))
    go (z ∷ ys) y (m, ms) =
        let own = z.0.own in
        let fit = m.fit in
        let total = m.total in
        let size : held p own ≡ length z.1 = y.sizes own ∙ ap length (content_cons z ys own) ∙ rw (eq-eqb own own refl) refl in
        let there = some_every most_packets (lacks p) own (omega (arith, fit.own, fit.total)) (ne_eqb (held p own) 0 (λ e. omega (arith, fit.some, size, e))) in
        let good = each_every most_packets (entry_good p) (λ k l. good_entry y k) in
        rw (le-leb 1 p.total (omega (arith, fit.own, total)), le-leb p.total most_packets (omega (arith, fit.total, total)), there, good) refl

-- ---- what a call makes of it

-- content c stands at b where it stood at a, if so many bytes are the same
kept : (c a b : List ℕ) → take (length c) a ≡ c → (1 ≤ length c → take (length c) b ≡ take (length c) a) → take (length c) b ≡ c
kept [] a b e h = refl
kept (y ∷ c) a b e h = h (omega arith) ∙ e

-- the same place over a store that has the same in its cells
pub moved : {s : List ℕ} {i : ℕ} {p : Place} {xs : List Part} (t : List ℕ) → Stands s i p xs → ((k n : ℕ) → k < most_packets → n ≤ part_bytes_of → take n (drop (cell i k) t) ≡ take n (drop (cell i k) s)) → Stands t i p xs
moved {s} {i} {p} {xs} t x h = record {
  some = x.some;
  members = x.members;
  agreed = x.agreed;
  row = x.row;
  sizes = x.sizes;
  cells = λ k.
      kept (content_of xs k) (drop (cell i k) s) (drop (cell i k) t) (x.cells k)
      (λ n. let b = content_below p.total p.language xs x.members k n in h k (length (content_of xs k)) (omega (arith, b)) (content_few p.total p.language xs x.members k));
}

-- a packet of a number that has not come is put in, where xs had come and the sizes were z
pub put_in_lem : (s : List ℕ) (i : ℕ) (p : Place) (x : Part) (xs : List Part) (z : List ℕ) → cell i x.0.own + length x.1 ≤ length s → Members p.total p.language (x ∷ xs)
    → ((y : Part) → Memᴰ y xs → content_of xs y.0.own ≡ y.1) → length (content_of xs x.0.own) ≡ 0 → length z ≡ most_packets
    → ((k : ℕ) → get_or z k 0 ≡ length (content_of xs k)) → ((k : ℕ) → take (length (content_of xs k)) (drop (cell i k) s) ≡ content_of xs k) → p.sizes ≡ set z x.0.own (length x.1)
    → Stands (laid s (cell i x.0.own) x.1) i p (x ∷ xs)
put_in_lem s i p x xs z fits ms agreed new row sizes cells is = record {
  some = omega arith;
  members = ms;
  agreed = λ y h. content_cons x xs y.0.own ∙ one y (Memᴰ.cases_cons h);
  row = ap length is ∙ length-set z own (length c) ∙ row;
  sizes = λ k. ap (λ y. get_or y k 0) is ∙ rw (content_cons x xs k) (size k (eqb own k) refl);
  cells = λ k. rw (content_cons x xs k) (stood k (eqb own k) refl);
}
  where
    own : ℕ
    own = x.0.own

    c : List ℕ
    c = x.1

    low : own < most_packets
    low = let f = ms.0.fit in omega (arith, f.own, f.total)

    one : (y : Part) → (y ≡ x) ⊎ Memᴰ y xs → cond (eqb own y.0.own) c (content_of xs y.0.own) ≡ y.1
    one y (inl q) = rw (eq-eqb own y.0.own (ap (λ u. u.0.own) (sym q))) (ap (λ u. u.1) (sym q))
    one y (inr h) = other (eqb own y.0.own) refl
      where
        other : (b : Bool) → eqb own y.0.own ≡ b → cond b c (content_of xs y.0.own) ≡ y.1
        other true e =
            let full = (member_of p.total p.language xs ms.1 y h).fit.some in
            absurd (omega (arith, full, new, ap length (agreed y h), ap (λ k. length (content_of xs k)) (eqb-true own y.0.own e)))
        other false e = agreed y h

    size : (k : ℕ) (y : Bool) → eqb own k ≡ y → get_or (set z own (length c)) k 0 ≡ length (cond y c (content_of xs k))
    size k true e = ap (λ j. get_or (set z own (length c)) j 0) (sym (eqb-true own k e)) ∙ get_or-set_same z own (length c) 0 (omega (arith, low, row))
    size k false e = get_or-set_other z own k (length c) 0 (λ q. eqb-false own k e (sym q)) ∙ sizes k

    stood : (k : ℕ) (y : Bool) → eqb own k ≡ y → take (length (cond y c (content_of xs k))) (drop (cell i k) (laid s (cell i own) c)) ≡ cond y c (content_of xs k)
    stood k true e = ap (λ j. take (length c) (drop (cell i j) (laid s (cell i own) c))) (sym (eqb-true own k e)) ∙ laid_there s (cell i own) c fits
    stood k false e =
        kept (content_of xs k) (drop (cell i k) s) (drop (cell i k) (laid s (cell i own) c)) (cells k)
        (λ n.
        let b = content_below p.total p.language xs ms.1 k n in
        other_cell s i own c fits low ms.0.fit.few i k (length (content_of xs k)) (omega (arith, b)) (content_few p.total p.language xs ms.1 k) (λ a q. eqb-false own k e q))

-- the same packet comes again
pub again : {s : List ℕ} {i : ℕ} {p : Place} {xs : List Part} (x : Part) → Stands s i p xs → Member p.total p.language x → content_of xs x.0.own ≡ x.1 → Stands s i p (x ∷ xs)
again {s} {i} {p} {xs} x y m e = record {
  some = omega arith;
  members = (m, y.members);
  agreed = λ u h. same u.0.own ∙ one u (Memᴰ.cases_cons h);
  row = y.row;
  sizes = λ k. rw (same k) (y.sizes k);
  cells = λ k. rw (same k) (y.cells k);
}
  where
    same : (k : ℕ) → content_of (x ∷ xs) k ≡ content_of xs k
    same k = content_cons x xs k ∙ go (eqb x.0.own k) refl
      where
        go : (b : Bool) → eqb x.0.own k ≡ b → cond b x.1 (content_of xs k) ≡ content_of xs k
        go true q = sym e ∙ ap (content_of xs) (eqb-true x.0.own k q)
        go false q = refl

    one : (u : Part) → (u ≡ x) ⊎ Memᴰ u xs → content_of xs u.0.own ≡ u.1
    one u (inl q) = rw q e
    one u (inr h) = y.agreed u h
