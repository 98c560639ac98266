-- Listing a window record by record: what is left to list, listed from where the loop stands, gives the whole. Assumes nothing.
use Rattle.std.proofs.Common.{◌≡◌, ℕ, ◌+◌, ◌-◌, ◌<◌, ◌≤◌, cond, eqb, List, [], ◌∷◌, ◌++◌, length, take, drop, sym, refl, ap, ◌∙◌, subst, arith, length-append, length-drop, take_all, drop-drop, eq-eqb, ne_eqb, le-leb}
use lib.Seq.{sets, length-sets}
use borrow.Author.Tests.{lt-leb}
use Rattle.daylog.specs.Records.{Entry, front, records, size_of}
use Rattle.daylog.specs.Kinds.{word, refusal_of, entry_line}
use Rattle.daylog.specs.Log.{after, after_all, lines}
use Rattle.daylog.specs.Stores.{placed, Stores}
use Rattle.daylog.specs.Promises.{Listed, listed, chosen, crowded, Lists}
use Rattle.daylog.specs.Laws.Refusals.{refused_list}
use Rattle.daylog.specs.Laws.Text.{line_some, sets_append}
use Rattle.daylog.specs.Laws.Records.{front_size, records_open}
use Rattle.daylog.specs.Laws.Windows.{entry_at, records_next, body_size}
use Rattle.daylog.specs.declared.records.Next.{Next}
use Rattle.daylog.specs.declared.records.Next.TheVariants.{Record, Bad, Short}
use Rattle.daylog.specs.Laws.Made.{placed_all, went, stayed, stored}

-- the records that are left to list
abbrev pub ahead : List ℕ → List ℕ → ℕ → ℕ → ℕ → List Entry
ahead s out used made n = listed (length out - made) n (records (drop used s))

-- the loop over the window s and the buffer o, from number m, stands at these
pub record Left (s : List ℕ) (m : ℕ) (o out : List ℕ) (used made n : ℕ) : Type 0 where
  pub within : used ≤ length s
  pub room : made ≤ length out
  pub kept : length out ≡ length o
  pub size : used + size_of (ahead s out used made n) ≡ size_of (chosen s m o)
  pub number : after_all n (ahead s out used made n) ≡ after_all m (chosen s m o)
  pub count : made + length (lines n (ahead s out used made n)) ≡ length (lines m (chosen s m o))
  pub text : sets out made (lines n (ahead s out used made n)) ≡ sets o 0 (lines m (chosen s m o))

-- no room for the next line, or no further record
pub full : (room n : ℕ) (s : List ℕ) (k i : ℕ) → front s ≡ Record k i → room < length (entry_line n (entry_at s k i)) → listed room n (records s) ≡ []
unfolding listed
full room n s k i e h = rw (records_next s k i e, lt-leb (length (entry_line n (entry_at s k i))) room h)

pub dry : (s : List ℕ) (r : Next) → r ≡ front s → ((k i : ℕ) → r ≡ Record k i → ⊥) → records s ≡ []
dry s (Record k i) e h = absurd (h k i refl)
dry s Bad e h = rw (records_open s, sym e)
dry s Short e h = rw (records_open s, sym e)

entry_some : (n : ℕ) (e : Entry) → 1 ≤ length (entry_line n e)
unfolding entry_line
entry_some n e = line_some n (word e.kind) (refusal_of e.kind e.body) (length e.body)

-- where a record is listed, there was room for the first
some_listed : (all : List Entry) (d : Entry) (es : List Entry) → crowded all (d ∷ es) ≡ 0
some_listed [] d es = refl
some_listed (e ∷ all) d es = refl

-- the part of the window from `used` on
pub rest_of : (s : List ℕ) (used : ℕ) → take (length s - used) (drop used s) ≡ drop used s
rest_of s used = take_all (length s - used) (drop used s) (simp length-drop (omega arith))

-- what the code's look at that part says of it
pub seen : (s : List ℕ) (used : ℕ) {r : Next} {k i : ℕ} → r ≡ front (take (length s - used) (drop used s)) → r ≡ Record k i → front (drop used s) ≡ Record k i
seen s used e f = ap front (sym (rest_of s used)) ∙ sym e ∙ f

pub fits : (s : List ℕ) (used : ℕ) {r : Next} {k i : ℕ} → r ≡ front (take (length s - used) (drop used s)) → r ≡ Record k i
    → (4 + i ≤ length s - used) × (4 + i ≤ 256)
fits s used {k = k} {i = i} e f = rw (length-drop used s) at (front_size (drop used s) k i (seen s used e f))

pub body_of : (s : List ℕ) (used i : ℕ) → take (4 + i - 4) (drop 4 (take (length s - used) (drop used s))) ≡ take i (drop 4 (drop used s))
body_of s used i = let z : 4 + i - 4 ≡ i = omega arith in rw (rest_of s used, z)

pub start : (s : List ℕ) (m : ℕ) (o : List ℕ) → Left s m o o 0 0 m
start s m o =
    let z : length o - 0 ≡ length o = omega arith in
    record {
      within = omega arith;
      room = omega arith;
      kept = refl;
      size = rw z (omega arith);
      number = rw z;
      count = rw z (omega arith);
      text = rw z;
    }

module _ {s : List ℕ} {m : ℕ} {o out : List ℕ} {used made n : ℕ} (x : Left s m o out used made n) where
  -- the next record comes first
  split : (k i : ℕ) {made' : ℕ} {out' : List ℕ} → front (drop used s) ≡ Record k i → made + length (entry_line n (entry_at (drop used s) k i)) ≤ length out
      → Stores out made (entry_line n (entry_at (drop used s) k i)) made' out'
      → ahead s out used made n ≡ entry_at (drop used s) k i ∷ ahead s out' (used + (4 + i)) made' (after n)
  unfolding listed
  split k i {made'} {out'} e h st =
      let b = entry_at (drop used s) k i in
      let kept : length out' ≡ length out = ap length st.leaves ∙ length-sets out made (entry_line n b) in
      let z : length out - made - length (entry_line n b) ≡ length out' - made' = omega (arith, st.ends) in
      let l : length (entry_line n b) ≤ length out - made = omega arith in
      rw (records_next (drop used s) k i e, le-leb (length (entry_line n b)) (length out - made) l, z, drop-drop (4 + i) used s)

  -- a record is listed
  pub turn : (k i : ℕ) {made' : ℕ} {out' : List ℕ} → front (drop used s) ≡ Record k i → (made' ≡ made → ⊥)
      → Stores out made (placed out made (entry_line n (entry_at (drop used s) k i))) made' out'
      → Left s m o out' (used + (4 + i)) made' (after n)
  unfolding size_of after_all lines
  turn k i {made'} {out'} e moved called =
      let b = entry_at (drop used s) k i in
      let h = went (entry_line n b) called moved in
      let st : Stores out made (entry_line n b) made' out' = rw (placed_all out made (entry_line n b) h) at called in
      let c = split k i e h st in
      let rest = ahead s out' (used + (4 + i)) made' (after n) in
      let kept : length out' ≡ length out = ap length st.leaves ∙ length-sets out made (entry_line n b) in
      let size : size_of (ahead s out used made n) ≡ 4 + i + size_of rest = ap size_of c ∙ rw (body_size (drop used s) k i e) in
      let lined : lines n (ahead s out used made n) ≡ entry_line n b ++ lines (after n) rest = ap (lines n) c in
      let count : length (lines n (ahead s out used made n)) ≡ length (entry_line n b) + length (lines (after n) rest) = ap length lined ∙ length-append (entry_line n b) (lines (after n) rest) in
      let glued : (l : List ℕ) → sets out' made' l ≡ sets out made (entry_line n b ++ l) = λ l. rw (st.leaves, st.ends) (sym (sets_append out made (entry_line n b) l)) in
      let inside : 4 + i ≤ length s - used = rw (length-drop used s) at (front_size (drop used s) k i e).0 in
      record {
        within = omega (arith, x.within);
        room = omega (arith, st.ends);
        kept = kept ∙ x.kept;
        size = omega (arith, x.size);
        number = sym (ap (after_all n) c) ∙ x.number;
        count = omega (arith, x.count, st.ends);
        text = glued (lines (after n) rest) ∙ ap (sets out made) (sym lined) ∙ x.text;
      }

  -- nothing more is listed
  stop : ahead s out used made n ≡ [] → {code : ℕ} → code ≡ crowded (records s) (chosen s m o) → (76 ≤ length o → code ≡ 0)
      → Lists s m o (record { code = code; used = used; made = made; number = n }) out
  unfolding size_of after_all lines
  stop e c f =
      let size : used + 0 ≡ size_of (chosen s m o) = rw e at x.size in
      let count : made + 0 ≡ length (lines m (chosen s m o)) = rw e at x.count in
      record {
        code = c;
        used = omega arith;
        number = rw e at x.number;
        text = stored (omega (arith, x.room, x.kept)) (record { ends = omega arith; leaves = rw e at x.text });
        enough = f;
      }

  -- no further record
  pub stop_dry : records (drop used s) ≡ [] → Lists s m o (record { code = 0; used = used; made = made; number = n }) out
  unfolding listed size_of
  stop_dry e = stop none (go (chosen s m o) refl) (λ l. refl)
    where
      none : ahead s out used made n ≡ []
      none = rw e

      go : (es : List Entry) → chosen s m o ≡ es → 0 ≡ crowded (records s) es
      go [] f =
          let u : used ≡ 0 = omega (arith, rw (none, f) at x.size) in
          rw (ap (λ k. records (drop k s)) (sym u) ∙ e)
      go (d ∷ es) f = sym (some_listed (records s) d es)

  -- no room for the next line
  pub stop_full : (k i : ℕ) {made' code : ℕ} {out' : List ℕ} → front (drop used s) ≡ Record k i → made' ≡ made
      → Stores out made (placed out made (entry_line n (entry_at (drop used s) k i))) made' out'
      → length (entry_line n (entry_at (drop used s) k i)) ≤ 76 → code ≡ cond (eqb used 0) 6 0
      → Lists s m o (record { code = code; used = used; made = made; number = n }) out'
  unfolding size_of lines
  stop_full k i {made'} {code} {out'} e same called few c =
      let b = entry_at (drop used s) k i in
      let p = stayed (entry_line n b) called same (entry_some n b) in
      let none = full (length out - made) n (drop used s) k i e (omega (arith, p.0)) in
      let (a, f) = go p.0 none (chosen s m o) refl in
      rw p.1 (stop none (c ∙ a) (λ l. c ∙ f l))
    where
      barred : ℕ
      barred = cond (eqb used 0) 6 0

      go : length out < made + length (entry_line n (entry_at (drop used s) k i)) → ahead s out used made n ≡ [] → (es : List Entry) → chosen s m o ≡ es
          → (barred ≡ crowded (records s) es) × (76 ≤ length o → barred ≡ 0)
      go h none [] f =
          let u : used ≡ 0 = omega (arith, rw (none, f) at x.size) in
          let z : made ≡ 0 = omega (arith, rw (none, f) at x.count) in (
            rw (eq-eqb used 0 u, ap (λ k. records (drop k s)) (sym u) ∙ records_next (drop used s) k i e),
            λ l. absurd (omega (arith, x.kept)),
          )
      go h none (d ∷ es) f =
          let u : used ≡ 0 → ⊥ = λ z. omega (arith, rw (none, f) at x.size) in
          (rw (ne_eqb used 0 u) (sym (some_listed (records s) d es)), λ l. rw (ne_eqb used 0 u))

  -- not even for the first one's
  pub stop_refused : (k i : ℕ) {made' : ℕ} {out' : List ℕ} → front (drop used s) ≡ Record k i → made' ≡ made
      → Stores out made (placed out made (entry_line n (entry_at (drop used s) k i))) made' out'
      → length (entry_line n (entry_at (drop used s) k i)) ≤ 76 → used ≡ 0
      → Lists s m o (record { code = 6; used = 0; made = 0; number = m }) out'
  stop_refused k i {out' = out'} e same called few u =
      let x = stop_full k i {code = 6} e same called few (rw (eq-eqb used 0 u) refl) in
      let (uses, makes, counts, left) = refused_list x (λ z. omega (arith, z)) in
      subst (λ (r : Listed). Lists s m o r out') (λ j. record { code = 6; used = uses j; made = makes j; number = counts j }) x
