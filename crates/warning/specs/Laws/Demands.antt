-- A warning is a family of format/specs/Laws/Family, whose theorems are demands 2 and 3; said here of the warning's own promises. Assumes nothing.
use Rattle.std.specs.Prelude.{◌≡◌, refl, Bool, true, false, cond, eqb, length, get_or, take, drop}
use Rattle.std.proofs.Common.{sym, ap, ◌∙◌, subst, arith, eqb-true, lit≤}
use mathlib.Core.List.{List, [], ◌∷◌, ◌++◌}
use Prim.Native.Nat.{ℕ, ◌+◌, ◌≤◌, ◌<◌, ◌^◌}
use Rattle.std.proofs.lemmas.Bool.{eqb-false}
use Rattle.bits.specs.Answers.{got}
use Rattle.bits.specs.Bits.{Bytes, field_at}
use Rattle.bits.specs.Laws.Answers.{got_fits}
use Rattle.warning.specs.Bodies.{Kind, cyclone, gale, waves, fog, surge, kind_of, type_of, body, body_kind, body_long, body_values, body_of}
use Rattle.warning.specs.declared.bodies.Body.{Body}
use Rattle.warning.specs.declared.bodies.Body.TheVariants.{Cyclone, Gale, Waves, Fog, Surge}
use Rattle.warning.specs.Laws.Walking.{body_numbered}
use Rattle.format.specs.Fmt.{Spot, accepted, end, spot}
use Rattle.format.specs.Settled.{Settled}
use Rattle.format.specs.Promises.{read_record, out_of, plain, Writes, Corrects}
use Rattle.format.specs.Refusals.{bare}
use Rattle.format.specs.Refusals.{Verdict}
use Rattle.format.specs.Words.{◌‥◌, wide, num, fill}
use Rattle.format.specs.Laws.Answers.{plain_good}
use Rattle.format.specs.Laws.Entries.{entries, entries_behind}
use Rattle.format.specs.Laws.Family.{Family}
use Rattle.format.proofs.Laws.Family.{read_values, one_size, written_front, read_written}
use Rattle.format.specs.Laws.Legal.{Legal, exactly, ranged}
use Rattle.format.proofs.Laws.Settled.{settled_named}
use Rattle.format.proofs.Laws.Whole.{was}
use Rattle.format.specs.Laws.Zero.{Judged, Counted, only_numbered}
use Rattle.ais_common.specs.Time.{spell_time, time_of}
use Rattle.ais_common.specs.Laws.Spelling.{time_spell, spell_time_lem}
use Rattle.ais_common.specs.Laws.Walking.{time_numbered}
use Rattle.warning.specs.Changed.{spot_of, field_of, changed, named_by, spot_by, changed_by}
use Rattle.warning.specs.Promises.{Reads}
use Rattle.warning.specs.Warning.{tail, warning, warnings, values_as, values_of, record_as, record_of}
use Rattle.warning.specs.Laws.Correction.{spotted, changed_values}
use Rattle.warning.specs.Laws.Sound.{front, bytes, type_at, sound}
use Rattle.warning.specs.Laws.Told.{recorded, kind_type}
use Rattle.warning.specs.declared.reading.Warning.{Warning}
use Rattle.format.specs.declared.Refusal.{Refusal}
use Rattle.std.specs.Prelude.{Result, Ok}

-- ---- records and values are one another's

-- the values of a body and of what follows it are those of the record that they make
tail_same : (t : Kind) (h us : List ℕ) → Legal (body t tail) h us → body_values (body_of t us) (spell_time (time_of (get_or us (body_long t) 0)) ∷ get_or us (1 + body_long t) 0 ∷ 0 ∷ []) ≡ us
unfolding entries wide
tail_same cyclone h us e =
    let es = entries_behind (body cyclone tail) h 10 us tt e in
    let g = subst (Legal (body cyclone tail) h) (sym es) e in
    let g7 = g.2.2.2.2.2.2.2 in
    let time = spell_time_lem (get_or us 7 0) g7.0 in
    let last = exactly 2 4 0 _ (get_or us 9 0) g7.2.2.0 g7.2.2.1 in
    (λ x. body_values (body_of cyclone us) (time x ∷ get_or us 8 0 ∷ sym last x ∷ [])) ∙ es
tail_same gale h us e =
    let es = entries_behind (body gale tail) h 8 us tt e in
    let g = subst (Legal (body gale tail) h) (sym es) e in
    let g4 = g.2.2.2.2 in
    let g5 = g4.2 in
    let fill = exactly 28 4 0 _ (get_or us 4 0) g4.0 g4.1 in
    let time = spell_time_lem (get_or us 5 0) g5.0 in
    let last = exactly 2 4 0 _ (get_or us 7 0) g5.2.2.0 g5.2.2.1 in
    (λ x. get_or us 0 0 ∷ get_or us 1 0 ∷ get_or us 2 0 ∷ get_or us 3 0 ∷ sym fill x ∷ time x ∷ get_or us 6 0 ∷ sym last x ∷ []) ∙ es
tail_same waves h us e =
    let es = entries_behind (body waves tail) h 7 us tt e in
    let g = subst (Legal (body waves tail) h) (sym es) e in
    let g3 = g.2.2.2 in
    let g4 = g3.2 in
    let fill = exactly 24 4 0 _ (get_or us 3 0) g3.0 g3.1 in
    let time = spell_time_lem (get_or us 4 0) g4.0 in
    let last = exactly 2 4 0 _ (get_or us 6 0) g4.2.2.0 g4.2.2.1 in
    (λ x. get_or us 0 0 ∷ get_or us 1 0 ∷ get_or us 2 0 ∷ sym fill x ∷ time x ∷ get_or us 5 0 ∷ sym last x ∷ []) ∙ es
tail_same fog h us e =
    let es = entries_behind (body fog tail) h 6 us tt e in
    let g = subst (Legal (body fog tail) h) (sym es) e in
    let g2 = g.2.2 in
    let g3 = g2.2 in
    let fill = exactly 33 4 0 _ (get_or us 2 0) g2.0 g2.1 in
    let time = spell_time_lem (get_or us 3 0) g3.0 in
    let last = exactly 2 4 0 _ (get_or us 5 0) g3.2.2.0 g3.2.2.1 in
    (λ x. get_or us 0 0 ∷ get_or us 1 0 ∷ sym fill x ∷ time x ∷ get_or us 4 0 ∷ sym last x ∷ []) ∙ es
tail_same surge h us e =
    let es = entries_behind (body surge tail) h 8 us tt e in
    let g = subst (Legal (body surge tail) h) (sym es) e in
    let g4 = g.2.2.2.2 in
    let g5 = g4.2 in
    let fill = exactly 9 4 0 _ (get_or us 4 0) g4.0 g4.1 in
    let time = spell_time_lem (get_or us 5 0) g5.0 in
    let last = exactly 2 4 0 _ (get_or us 7 0) g5.2.2.0 g5.2.2.1 in
    (λ x. get_or us 0 0 ∷ get_or us 1 0 ∷ get_or us 2 0 ∷ get_or us 3 0 ∷ sym fill x ∷ time x ∷ get_or us 6 0 ∷ sym last x ∷ []) ∙ es

-- a type that may be is that of its kind
type_kind : (t : ℕ) → 1 ≤ t → t ≤ 5 → type_of (kind_of t) ≡ t
type_kind t lo hi = go (eqb t 1) (eqb t 2) (eqb t 3) (eqb t 4) refl refl refl refl
  where
    go : (a b c d : Bool) → eqb t 1 ≡ a → eqb t 2 ≡ b → eqb t 3 ≡ c → eqb t 4 ≡ d → type_of (cond a cyclone (cond b gale (cond c waves (cond d fog surge)))) ≡ t
    go true b c d ea eb ec ed = sym (eqb-true t 1 ea)
    go false true c d ea eb ec ed = sym (eqb-true t 2 eb)
    go false false true d ea eb ec ed = sym (eqb-true t 3 ec)
    go false false false true ea eb ec ed = sym (eqb-true t 4 ed)
    go false false false false ea eb ec ed =
        let a = eqb-false t 1 ea in
        let b = eqb-false t 2 eb in
        let c = eqb-false t 3 ec in
        let d = eqb-false t 4 ed in
        omega arith

module _ (repeat source type longitude latitude : ℕ) (h us : List ℕ) where
  abbrev whole : List ℕ
  whole = 8 ∷ repeat ∷ source ∷ 0 ∷ 412 ∷ 3 ∷ type ∷ longitude ∷ latitude ∷ us

  whole_same : (t : Kind) → type_of t ≡ type → Legal (body t tail) h us → values_of (record_as t whole) ≡ whole
  unfolding values_as record_as
  whole_same t is e = go t is (tail_same t h us e)
    where
      head : ℕ → List ℕ → List ℕ
      head n l = 8 ∷ repeat ∷ source ∷ 0 ∷ 412 ∷ 3 ∷ n ∷ longitude ∷ latitude ∷ l

      go : (t : Kind) → type_of t ≡ type → body_values (body_of t us) (spell_time (time_of (get_or us (body_long t) 0)) ∷ get_or us (1 + body_long t) 0 ∷ 0 ∷ []) ≡ us → values_of (record_as t whole) ≡ whole
      go cyclone is e = λ i. head (is i) (e i)
      go gale is e = λ i. head (is i) (e i)
      go waves is e = λ i. head (is i) (e i)
      go fog is e = λ i. head (is i) (e i)
      go surge is e = λ i. head (is i) (e i)

-- accepted values are those of their record: the codes and fills are as they must be
same_values : (vs : List ℕ) → Legal warning [] vs → values_of (record_of vs) ≡ vs
same_values vs h =
    let f = front vs h in
    let (lo, hi) = ranged 1 5 f.type f.type_is in
    let t = type_kind f.type lo hi in
    let is : vs ≡ whole f.repeat f.source f.type f.longitude f.latitude f.before f.left =
    f.is ∙ (λ i. f.message_is i ∷ f.repeat ∷ f.source ∷ f.spare_is i ∷ f.authority_is i ∷ f.application_is i ∷ f.type ∷ f.longitude ∷ f.latitude ∷ f.left) in
    ap (λ vs. values_of (record_of vs)) is ∙ whole_same f.repeat f.source f.type f.longitude f.latitude f.before f.left (kind_of f.type) t f.holds ∙ sym is

-- a record's time fits where its values are accepted
held_time : (b : Body) (h : List ℕ) (time hours : ℕ) → Legal (body (kind_of (type_of (body_kind b))) tail) h (body_values b (time ∷ hours ∷ 0 ∷ [])) → time < 2 ^ 20
unfolding wide
held_time (Cyclone b) h time hours e = e.2.2.2.2.2.2.2.0
held_time (Gale b) h time hours e = e.2.2.2.2.2.0
held_time (Waves b) h time hours e = e.2.2.2.2.0
held_time (Fog b) h time hours e = e.2.2.2.0
held_time (Surge b) h time hours e = e.2.2.2.2.2.0

same_record : (r : Warning) → Legal warning [] (values_of r) → record_of (values_of r) ≡ r
unfolding values_as warning
same_record r h =
    let fits = held_time r.body _ (spell_time r.time) r.hours h.2.2.2.2.2.2.2.2.2 in
    let time = time_spell r.time fits in
    recorded r.repeat r.source (type_of (body_kind r.body)) r.longitude r.latitude (spell_time r.time) r.hours r.body _ (kind_type (body_kind r.body))
    ∙ (λ i. record { repeat = r.repeat; source = r.source; longitude = r.longitude; latitude = r.latitude; body = r.body; time = time i; hours = r.hours })

-- ---- the family

numbers : Judged warning
unfolding warning
numbers =
    let hours : Judged (num 6 (0 ‥ 48) (fill 2 end)) = (only_numbered 6 3 _, (only_numbered 2 4 _, tt)) in
    let ends : Judged tail = time_numbered (num 6 (0 ‥ 48) (fill 2 end)) hours in (
      only_numbered 6 1 _,
      (
        only_numbered 2 3 _,
        (
          only_numbered 30 3 _,
          (
            only_numbered 2 4 _,
            (
              only_numbered 10 1 _,
              (
                only_numbered 6 1 _,
                (
                  only_numbered 4 1 _,
                  λ t.
                      (only_numbered 23 3 _, (only_numbered 23 3 _, body_numbered (kind_of t) tail ends)),
                ),
              ),
            ),
          ),
        ),
      ),
    )

counted : (r : Warning) → Counted warning 0 (values_of r)
unfolding warning values_as wide
counted r = go r.body
  where
    go : (b : Body) → Counted (body (kind_of (type_of (body_kind b))) tail) 106 (body_values b (spell_time r.time ∷ r.hours ∷ 0 ∷ []))
    go (Cyclone b) = tt
    go (Gale b) = tt
    go (Waves b) = tt
    go (Fog b) = tt
    go (Surge b) = tt

pub family : Family warnings Warning (λ r. Unit) values_of record_of changed
unfolding warnings
family = record {
  sound = sound;
  judged = numbers;
  counted = λ r k. counted r;
  same_record = λ r k h. same_record r h;
  same_values = same_values;
  can_lend = λ vs h. tt;
  changes = λ r i v p w k e n. (changed_values r i v p w (sym (spotted r i) ∙ e) n, tt);
}

-- the type's number in the bytes is that of the record's body
type_number : (s : List ℕ) (r : Warning) → Bytes s → read_record warnings record_of s ≡ accepted r → field_at s 56 4 ≡ type_of (body_kind r.body)
unfolding warnings values_as
type_number s r fine e = let m = (read_values family s r fine e).0 in type_at s (values_of r) (was warnings s (values_of r) m).walked

-- the field of number n, found by the type k that the code read there, stands where it was found
pub looked_stands : (s : List ℕ) (n k : ℕ) {x : Spot} → Bytes s → k ≡ got s 56 4 → spot_of (kind_of k) (field_of k n) ≡ x
    → (r : Warning) → read_record warnings record_of s ≡ accepted r → spot warnings.fmt [] (values_of r) (field_of (field_at s 56 4) n) ≡ x
unfolding warnings values_as
looked_stands s n k fine is there r e =
    let m = (was warnings s (values_of r) (read_values family s r fine e).0).walked in
    let type = is ∙ got_fits s 56 4 (lit≤ tt) (omega (arith, bytes s (values_of r) m)) in
    let kind = ap kind_of (type ∙ type_at s (values_of r) m) ∙ kind_type (body_kind r.body) in
    ap (λ t. spot warnings.fmt [] (values_of r) (field_of t n)) (sym type) ∙ spotted r (field_of k n) ∙ ap (λ t. spot_of t (field_of k n)) (sym kind) ∙ there

-- ---- said of the warning's promises

-- an answer that is good is an accepted reading
pub good : (s : List ℕ) (r : Warning) → Reads s (Ok r) → read_record warnings record_of s ≡ accepted r
good s r e = plain_good (read_record warnings record_of s) (sym e)

-- What is written is read back as the same record.
pub written_reads : (s : List ℕ) (r : Warning) (t : List ℕ) → Writes warnings s (bare 0) t (values_of r) → Reads (take 23 t) (Ok r)
unfolding warnings
written_reads s r t w = sym (ap plain (written_front family s r t 23 tt w (one_size warnings 23 refl refl (values_of r))))

-- What is read is written back as the same bytes.
pub read_writes_back : (s : List ℕ) (r : Warning) → Bytes s → Reads s (Ok r) → (u : List ℕ) (code : Verdict) (t : List ℕ) → length s ≤ length u → Writes warnings u code t (values_of r)
    → (code ≡ bare 0) × (t ≡ s ++ drop (length s) u)
read_writes_back s r fine a = read_written family s r fine (good s r a)

-- Demand 3: every correction of a warning, by any number and any value.
pub corrected : (s : List ℕ) (a : Result Warning Refusal) → Bytes s → Reads s a → (n v : ℕ) (code : Verdict) (t : List ℕ) → Corrects warnings s (field_of (field_at s 56 4) n) v code t
    → Settled warnings spot_by values_of changed_by s (out_of a) n v code t
corrected s a fine reads n v code t c =
    settled_named family (λ r. spot_of (body_kind r.body)) spotted s fine (field_of (field_at s 56 4) n) v code t c named_by n (λ r e. ap (λ k. field_of k n) (type_number s r fine e))
    (out_of a) reads
