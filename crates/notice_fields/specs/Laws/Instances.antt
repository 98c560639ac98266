-- Points and areas, of any kind of point, are stretches of fields that a row tells: the laws on counted groups are theirs. Assumes nothing.
use Rattle.std.specs.Prelude.{ℕ}
use Rattle.format.specs.Laws.Zero.{walk_numbered}
use Rattle.format.specs.Laws.Groups.{Item, one, a_number, a_decider, next, repeated}
use Rattle.format.proofs.Laws.Groups.{counted_evenly}
use Rattle.notice_fields.specs.Areas.{Kind, sea, circle, several, kind_of, inside, areas}
use Rattle.notice_fields.specs.Terms.{Point, point_of}
use Rattle.notice_fields.specs.Row.{inside_long, areas_long, point_told, inside_told, areas_told}

-- a point takes two numbers
pub a_point : (p : Point) → Item (point_of p) point_told (λ row. 2)
a_point p = next (one 0 p.latitude_bits _ _ (walk_numbered p.latitude p.coded.0)) (one 0 p.longitude_bits _ _ (walk_numbered p.longitude p.coded.1))

an_inside : (p : Point) (k : Kind) → Item (inside p k) (inside_told k) (inside_long k)
an_inside p sea = a_number 0 8 _
an_inside p circle = next (a_point p) (next (a_number 0 10 _) (a_number 0 2 _))
an_inside p (several least) = counted_evenly 0 4 _ (a_point p)

pub some_areas : (p : Point) (n : ℕ) → Item (areas p n) (areas_told n) (areas_long n)
some_areas p n = repeated (a_decider 0 3 _ (λ k. an_inside p (kind_of k))) n
