-- What differs between notices, as one value (paper 02, C-15, C-19, C-24): a point's parts, the subtypes of a type, and when a text is good. Assumes nothing.
use Rattle.std.specs.Prelude.{ℕ, Bool, List}
use Rattle.std.proofs.Common.{arith}
use Rattle.format.specs.Fmt.{Fmt}
use Rattle.format.specs.Words.{Test, ◌▹◌, Part}
use Rattle.format.specs.Laws.Zero.{Coded}
use Rattle.notice_fields.specs.Parts.{parted, angle, latitude_bits, longitude_bits}

-- A point: the parts of its latitude and of its longitude, which are corrected as one number each, of so many bits. They are refused by numbers of the paper.
pub record Point : Type 0 where
  pub latitude : List Part
  pub longitude : List Part
  pub latitude_bits : ℕ
  pub longitude_bits : ℕ
  pub coded : Coded latitude × Coded longitude

pub record Terms : Type 0 where
  pub point : Point
  pub subtypes : ℕ → Test
  pub text : List ℕ → Bool

-- one behind the other
abbrev pub point_of : Point → Fmt → Fmt
point_of p f = parted p.latitude_bits p.latitude ▹ parted p.longitude_bits p.longitude ▹ f

-- ---- ours, in degrees, minutes and hundredths

pub angle_coded : (d most : ℕ) → Coded (angle d most)
angle_coded d most = ((λ z. omega arith), ((λ z. omega arith), ((λ z. omega arith), ((λ z. omega arith), tt))))

abbrev pub our_point : Point
our_point = record {
  latitude = angle 7 90;
  longitude = angle 8 180;
  latitude_bits = latitude_bits;
  longitude_bits = longitude_bits;
  coded = (angle_coded 7 90, angle_coded 8 180);
}

abbrev pub point : Fmt → Fmt
point = point_of our_point
