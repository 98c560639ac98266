-- What the code's walk over a notice gives: its head, its text and the end, and all of it. Assumes nothing.
use Rattle.std.specs.Prelude.{ℕ, ◌≡◌, ◌*◌, Result, IfOk, Bool, true, false, cond, ◌&&◌, List, [], eqb, length}
use Rattle.bits.specs.Answers.{spanned}
use Rattle.bits.specs.Bits.{bits_of, bytes_at}
use Rattle.walk.specs.Faults.{wholly}
use Rattle.format.specs.Fmt.{Out, read}
use Rattle.format.specs.Refusals.{shown, told_of}
use Rattle.format.specs.declared.Refusal.{Refusal}
use Rattle.walk.specs.Reading.{ranged, ended}
use Rattle.walk.specs.Walk.{Walk, seen, begun, onward}
use Rattle.notice_fields.specs.Steps.{areas_walked}
use Rattle.notice_fields.specs.PartsSteps.{least_subtype, most_subtype, expiry_read}
use Rattle.text.specs.Text.{in_language}
use Rattle.notice.specs.Notice.{ours, notice, sizes}
use Rattle.notice.specs.declared.reading.Notice.{Notice}
use Rattle.notice.specs.declared.reading.Opening.{Opening as DeclaredOpening}
use Rattle.notice.specs.declared.reading.Ending.{Ending as DeclaredEnding}
use Rattle.notice.specs.declared.reading.Course.{Course as DeclaredCourse}

-- the walk in front of the areas, and what stands there
pub record Opening : Type 0 where
  pub walk : Walk
  pub notice : Notice

abbrev pub opening : DeclaredOpening → Opening
opening h = record { walk = seen h.walk; notice = h.notice }

-- the walk behind the text, and how many bytes it has
pub record Ending : Type 0 where
  pub walk : Walk
  pub text : ℕ

abbrev pub ending : DeclaredEnding → Ending
ending t = record { walk = seen t.walk; text = t.text }

-- the walk over a whole notice, its record, and where its text stands and how many bytes it has
pub record Course : Type 0 where
  pub walk : Walk
  pub notice : Notice
  pub at : ℕ
  pub text : ℕ

abbrev pub course : DeclaredCourse → Course
course f = record { walk = seen f.walk; notice = f.notice; at = f.at; text = f.text }

-- what is given of the course c: all of it, or what its walk refused
abbrev pub Gives : Course → Result DeclaredCourse Refusal → Type 0
Gives c x = (told_of x ≡ shown c.walk.code c.walk.offset) × IfOk x (λ f. course f ≡ c)

-- what reading the fields of s answers
abbrev pub fields_read : Bool → List ℕ → Out (List ℕ)
fields_read english s = read (notice (ours english)) [] 0 (bits_of s)

-- up to the areas, with field i sought
unfoldable pub opening_of : ℕ → List ℕ → Opening
opening_of i s =
    let source = ranged s 5 true 1 21 4 (begun 0 i) in
    let station = ranged s 4 true 1 3 4 source in
    let serial = ranged s 14 true 1 9_999 4 station in
    let year = ranged s 7 true 0 99 4 serial in
    let kind = ranged s 4 true 1 8 4 year in
    let subtype = ranged s 4 true (least_subtype kind.v) (most_subtype kind.v) 4 kind in
    let expiry = expiry_read s subtype in
    let count = ranged s 4 false 0 15 4 expiry in
    record {
      walk = count;
      notice = record { source = source.v; station = station.v; serial = serial.v; year = year.v; kind = kind.v; subtype = subtype.v; expiry = expiry.v; count = count.v };
    }

-- over a text of n bytes, and the end
abbrev pub text_walked : Bool → List ℕ → ℕ → Walk → Walk
text_walked english s n r =
    let fault : ℕ = cond (spanned (length s) r.at n && in_language english (bytes_at s r.at n)) 0 4 in
    ended s (onward (n * 8) false 0 fault 0 (onward 0 false n 0 0 r))

-- behind the areas: all whole bytes that are left are text; after a refusal nothing is looked at
unfoldable pub ending_of : Bool → List ℕ → Walk → Ending
ending_of english s r =
    let n = wholly s r.at in
    cond (eqb r.code 0) (record { walk = text_walked english s n r; text = n }) (record { walk = r; text = 0 })

-- what is left of a notice whose size is refused by the number c
abbrev pub unread_by : ℕ → Course
unread_by c = record {
  walk = begun c 0;
  notice = record { source = 0; station = 0; serial = 0; year = 0; kind = 0; subtype = 0; expiry = 0; count = 0 };
  at = 0;
  text = 0;
}

-- from the head on
abbrev pub behind : Bool → List ℕ → Opening → Course
behind english s h =
    let areas = areas_walked s h.notice.count h.walk in
    let ending = ending_of english s areas in
    record { walk = ending.walk; notice = h.notice; at = areas.at; text = ending.text }

-- the whole notice, with field i sought; one of another size is not walked
unfoldable pub course_of : Bool → ℕ → List ℕ → Course
course_of english i s = cond (eqb (sizes s) 0) (behind english s (opening_of i s)) (unread_by (sizes s))
