-- An area is a family of format/specs/Laws/Family, whose theorems are demands 2 and 3; said here of its own promises. Assumes nothing.
use Rattle.std.specs.Prelude.{◌≡◌, refl, Bool, true, false, cond, List, [], ◌∷◌, ◌++◌, ℕ, ◌≤◌, ◌<◌, ◌^◌, eqb, length, get_or, take, drop}
use Rattle.std.proofs.Common.{sym, ap, ◌∙◌, arith, lit≤, eqb-true}
use Rattle.std.proofs.lemmas.Bool.{eqb-false}
use Rattle.bits.specs.Answers.{got}
use Rattle.bits.specs.Bits.{Bytes, field_at}
use Rattle.bits.specs.Laws.Answers.{got_fits}
use Rattle.walk.specs.Laws.Sign.{spell_int}
use Rattle.format.specs.Fmt.{Spot, accepted, end, spot}
use Rattle.format.specs.Settled.{Settled}
use Rattle.format.specs.Promises.{read_record, out_of, plain, Writes, Corrects}
use Rattle.format.specs.Refusals.{bare}
use Rattle.format.specs.Refusals.{Verdict}
use Rattle.format.specs.Words.{◌‥◌, num, fill, wide}
use Rattle.format.specs.Laws.Answers.{plain_good}
use Rattle.format.specs.Laws.Entries.{entries}
use Rattle.format.specs.Laws.Family.{Family}
use Rattle.format.proofs.Laws.Family.{one_size, written_front, read_written, read_values}
use Rattle.format.specs.Laws.Legal.{Legal, exactly, ranged}
use Rattle.format.proofs.Laws.Settled.{settled_named}
use Rattle.format.proofs.Laws.Whole.{was}
use Rattle.format.specs.Laws.Zero.{Judged, Counted, only_numbered}
use Rattle.ais_common.specs.Time.{short_time, spell_time, time_of, spell_short, short_of}
use Rattle.ais_common.specs.Laws.Spelling.{time_spell, spell_time_lem, short_spell, spell_short_lem}
use Rattle.ais_common.specs.Laws.Walking.{time_numbered, short_numbered}
use Rattle.area.specs.Area.{tail, area, areas, values_as, values_of, record_of}
use Rattle.area.specs.Changed.{spot_of, field_of, changed, named_by, spot_by, changed_by}
use Rattle.area.specs.Promises.{Reads}
use Rattle.area.specs.Shapes.{Kind, circle, rectangle, kind_of, type_of, shape, shape_kind, shape_values, shape_of}
use Rattle.area.specs.Laws.Correction.{spotted, changed_values}
use Rattle.area.specs.Laws.Sound.{front, bytes, shape_at, sound}
use Rattle.area.specs.Laws.Told.{recorded, kind_type}
use Rattle.area.specs.Steps.{Narrow}
use Rattle.area.specs.Laws.Walking.{shape_numbered}
use Rattle.area.specs.declared.reading.Area.{Area}
use Rattle.area.specs.declared.reading.shapes.Shape.{Shape}
use Rattle.area.specs.declared.reading.shapes.Shape.TheVariants.{Circle, Rectangle}
use Rattle.format.specs.declared.Refusal.{Refusal}
use Rattle.std.specs.Prelude.{Result, Ok}

-- ---- the values of a record

-- as many as the layout has fields
count : (r : Area) → Counted area 0 (values_of r)
unfolding area values_as
count r = go r.shape
  where
    go : (b : Shape) → Counted (shape (kind_of (type_of (shape_kind b))) tail) 94 (shape_values b (spell_time r.time ∷ spell_short r.second_time ∷ r.advice ∷ 0 ∷ []))
    go (Circle b) = tt
    go (Rectangle b) = tt

-- what is legal behind the shape's number fits its bits
fits : (b : Shape) (h : List ℕ) (t u a : ℕ) → Legal (shape (kind_of (type_of (shape_kind b))) tail) h (shape_values b (t ∷ u ∷ a ∷ 0 ∷ [])) → Narrow b × (t < 2 ^ 20) × (u < 2 ^ 14)
unfolding wide
fits (Circle b) h t u a g = ((g.0, g.2.0), g.2.2.2.2.0, g.2.2.2.2.2.0)
fits (Rectangle b) h t u a g = ((g.0, g.2.0, g.2.2.0, g.2.2.2.0), g.2.2.2.2.0, g.2.2.2.2.2.0)

-- the record of a record's values is that record
same_record : (r : Area) → Legal area [] (values_of r) → record_of (values_of r) ≡ r
unfolding area values_as
same_record r h =
    let b = r.shape in
    let before = type_of (shape_kind b) ∷ r.kind ∷ 11 ∷ 412 ∷ 0 ∷ r.resent ∷ r.destination ∷ r.sequence ∷ r.source ∷ r.repeat ∷ 6 ∷ [] in
    let (narrow, x, y) = fits b before (spell_time r.time) (spell_short r.second_time) r.advice h.2.2.2.2.2.2.2.2.2.2.2 in
    recorded r.repeat r.source r.sequence r.destination r.resent r.kind (type_of (shape_kind b)) (spell_time r.time) (spell_short r.second_time) r.advice b (kind_type (shape_kind b)) narrow
    ∙ (λ i. record {
      repeat = r.repeat;
      source = r.source;
      sequence = r.sequence;
      destination = r.destination;
      resent = r.resent;
      kind = r.kind;
      shape = b;
      time = time_spell r.time x i;
      second_time = short_spell r.second_time y i;
      advice = r.advice;
    })

-- ---- the record of values

-- one of the two numbers is that of its kind
type_kind : (t : ℕ) → 1 ≤ t → t ≤ 2 → type_of (kind_of t) ≡ t
type_kind t lo hi = go (eqb t 1) refl
  where
    go : (x : Bool) → eqb t 1 ≡ x → type_of (cond x circle rectangle) ≡ t
    go true e = sym (eqb-true t 1 e)
    go false e = let n = eqb-false t 1 e in omega (arith, n, lo, hi)

-- accepted values behind the shape's number are those of its shape and the times
behind : (t : Kind) (vs h : List ℕ) → Legal (shape t tail) h (entries 11 8 vs)
    → (shape_kind (shape_of t vs) ≡ t) × (shape_values (shape_of t vs) (spell_time (time_of (get_or vs 15 0)) ∷ spell_short (short_of (get_or vs 16 0)) ∷ get_or vs 17 0 ∷ 0 ∷ []) ≡ entries 11 8 vs)
unfolding entries wide
behind circle vs h g =
    let east = spell_int (2 ^ 28) (get_or vs 11 0) (lit≤ tt) refl g.0 in
    let north = spell_int (2 ^ 27) (get_or vs 12 0) (lit≤ tt) refl g.2.0 in
    let g3 = g.2.2.2 in
    let gap = exactly 48 4 0 _ (get_or vs 14 0) g3.0 g3.1 in
    let first = spell_time_lem (get_or vs 15 0) g3.2.0 in
    let second = spell_short_lem (get_or vs 16 0) g3.2.2.0 in
    let g7 = g3.2.2.2.2 in
    let fill = exactly 6 4 0 _ (get_or vs 18 0) g7.0 g7.1 in
    (refl, λ y. east y ∷ north y ∷ get_or vs 13 0 ∷ sym gap y ∷ first y ∷ second y ∷ get_or vs 17 0 ∷ sym fill y ∷ [])
behind rectangle vs h g =
    let east = spell_int (2 ^ 28) (get_or vs 11 0) (lit≤ tt) refl g.0 in
    let north = spell_int (2 ^ 27) (get_or vs 12 0) (lit≤ tt) refl g.2.0 in
    let east2 = spell_int (2 ^ 28) (get_or vs 13 0) (lit≤ tt) refl g.2.2.0 in
    let g3 = g.2.2.2 in
    let north2 = spell_int (2 ^ 27) (get_or vs 14 0) (lit≤ tt) refl g3.0 in
    let first = spell_time_lem (get_or vs 15 0) g3.2.0 in
    let second = spell_short_lem (get_or vs 16 0) g3.2.2.0 in
    let g7 = g3.2.2.2.2 in
    let fill = exactly 6 4 0 _ (get_or vs 18 0) g7.0 g7.1 in
    (refl, λ y. east y ∷ north y ∷ east2 y ∷ north2 y ∷ first y ∷ second y ∷ get_or vs 17 0 ∷ sym fill y ∷ [])

-- accepted values are those of their record
same_values : (vs : List ℕ) → Legal area [] vs → values_of (record_of vs) ≡ vs
unfolding values_as record_of entries
same_values vs h =
    let f = front vs h in
    let (lo, hi) = ranged 1 2 (get_or vs 10 0) f.shape_is in
    let (kind, rest) = behind (kind_of (get_or vs 10 0)) vs f.before f.holds in
    let type = ap type_of kind ∙ type_kind (get_or vs 10 0) lo hi in
    (λ y. sym f.message_is y ∷ get_or vs 1 0 ∷ get_or vs 2 0 ∷ get_or vs 3 0 ∷ get_or vs 4 0 ∷ get_or vs 5 0 ∷ sym f.fill_is y ∷ sym f.authority_is y ∷ sym f.application_is y ∷ get_or vs 9 0 ∷ type y ∷ rest y)
    ∙ f.is

numbers : Judged area
unfolding area
numbers =
    let last : Judged (num 4 (1 ‥ 6) (fill 6 end)) = (only_numbered 4 3 _, (only_numbered 6 4 _, tt)) in
    let ends : Judged tail = time_numbered (short_time (num 4 (1 ‥ 6) (fill 6 end))) (short_numbered (num 4 (1 ‥ 6) (fill 6 end)) last) in (
      only_numbered 6 1 _,
      (
        only_numbered 2 3 _,
        (
          only_numbered 30 3 _,
          (
            only_numbered 2 3 _,
            (
              only_numbered 30 3 _,
              (
                only_numbered 1 3 _,
                (only_numbered 1 4 _, (only_numbered 10 1 _, (only_numbered 6 1 _, (only_numbered 4 3 _, (only_numbered 2 1 _, λ v. shape_numbered (kind_of v) tail ends))))),
              ),
            ),
          ),
        ),
      ),
    )

pub family : Family areas Area (λ r. Unit) values_of record_of changed
unfolding areas
family = record {
  sound = sound;
  judged = numbers;
  counted = λ r k. count r;
  same_record = λ r k h. same_record r h;
  same_values = same_values;
  can_lend = λ vs h. tt;
  changes = λ r i v p w k e n. (changed_values i v p w n r (sym (spotted r i) ∙ e), tt);
}

-- ---- said of its promises

-- an answer that is good is an accepted reading
pub good : (s : List ℕ) (r : Area) → Reads s (Ok r) → read_record areas record_of s ≡ accepted r
good s r e = plain_good (read_record areas record_of s) (sym e)

-- What is written is read back as the same record.
pub written_reads : (s : List ℕ) (r : Area) (t : List ℕ) → Writes areas s (bare 0) t (values_of r) → Reads (take 31 t) (Ok r)
unfolding areas
written_reads s r t w = sym (ap plain (written_front family s r t 31 tt w (one_size areas 31 refl refl (values_of r))))

-- What is read is written back as the same bytes.
pub read_writes_back : (s : List ℕ) (r : Area) → Bytes s → Reads s (Ok r) → (u : List ℕ) (code : Verdict) (t : List ℕ) → length s ≤ length u → Writes areas u code t (values_of r)
    → (code ≡ bare 0) × (t ≡ s ++ drop (length s) u)
read_writes_back s r fine a = read_written family s r fine (good s r a)

-- the shape's number in the bytes is that of the record's shape
shape_number : (s : List ℕ) (r : Area) → Bytes s → read_record areas record_of s ≡ accepted r → field_at s 92 2 ≡ type_of (shape_kind r.shape)
unfolding areas values_as
shape_number s r fine e = let m = (read_values family s r fine e).0 in shape_at s (values_of r) (was areas s (values_of r) m).walked

-- the field of number n, found by the shape's number k that the code read there, stands where it was found
pub looked_stands : (s : List ℕ) (n k : ℕ) {x : Spot} → Bytes s → k ≡ got s 92 2 → spot_of (kind_of k) (field_of k n) ≡ x
    → (r : Area) → read_record areas record_of s ≡ accepted r → spot areas.fmt [] (values_of r) (field_of (field_at s 92 2) n) ≡ x
unfolding areas
looked_stands s n k fine is there r e =
    let m = (was areas s (values_of r) (read_values family s r fine e).0).walked in
    let shape = is ∙ got_fits s 92 2 (lit≤ tt) (omega (arith, bytes s (values_of r) m)) in
    let kind = ap kind_of (shape ∙ shape_number s r fine e) ∙ kind_type (shape_kind r.shape) in
    ap (λ t. spot areas.fmt [] (values_of r) (field_of t n)) (sym shape) ∙ spotted r (field_of k n) ∙ ap (λ t. spot_of t (field_of k n)) (sym kind) ∙ there

-- Demand 3: every correction of an area, by any number and any value.
pub corrected : (s : List ℕ) (a : Result Area Refusal) → Bytes s → Reads s a → (n v : ℕ) (code : Verdict) (t : List ℕ) → Corrects areas s (field_of (field_at s 92 2) n) v code t
    → Settled areas spot_by values_of changed_by s (out_of a) n v code t
corrected s a fine reads n v code t c =
    settled_named family (λ r. spot_of (shape_kind r.shape)) spotted s fine (field_of (field_at s 92 2) n) v code t c named_by n (λ r e. ap (λ k. field_of k n) (shape_number s r fine e))
    (out_of a) reads
