-- The tide's layout is sound, its judges refuse by the paper's numbers, and its entries and records are counted groups: so the laws on all layouts and on all groups hold of them. Assumes nothing.
use Rattle.std.specs.Prelude.{ℕ, refl, Bool, true, false, cond, eqb}
use Rattle.format.specs.Codes.{headed}
use Rattle.format.specs.Fmt.{end}
use Rattle.format.specs.Groups.{repeat, one_told}
use Rattle.format.specs.Message.{Sound}
use Rattle.format.specs.Words.{◌‥◌, wide, num}
use Rattle.format.specs.Laws.Codes.{codes_judged}
use Rattle.format.proofs.Laws.Codes.{headed_sound}
use Rattle.format.specs.Laws.Groups.{Item, one, a_number, a_decider, next, repeated}
use Rattle.format.proofs.Laws.Groups.{counted_evenly}
use Rattle.format.specs.Laws.Zero.{Judged}
use Rattle.notice_fields.specs.Terms.{our_point, point}
use Rattle.notice_fields.specs.Row.{point_told}
use Rattle.notice_fields.specs.Laws.Instances.{a_point}
use Rattle.notice_fields.specs.Laws.PartsWalking.{time_numbered}
use Rattle.tide.specs.Row.{placed_long, record_long, records_long, placed_told, some_time, entry_told, record_told, records_told}
use Rattle.tide.specs.Tide.{placed, entry, tide_record, front, records, tides}

pub sound : Sound tides
unfolding tides
sound = headed_sound front 9 210 (λ vs. 0) records (λ vs h. refl) (λ vs i v p w e. refl)

-- ---- items

-- a port's code, or a point
a_place : (k : ℕ) → Item (placed k) (placed_told k) (λ row. placed_long k)
unfolding placed
a_place k = go (eqb k 0)
  where
    go : (x : Bool) → Item (λ f. cond x (num 6 (0 ‥ 63) f) (point f)) (cond x (one_told 0) point_told) (λ row. cond x 1 2)
    go true = a_number 0 6 _
    go false = a_point our_point

an_entry : Item entry entry_told (λ row. 3)
unfolding wide
an_entry = next (one some_time 21 _ _ time_numbered) (next (a_number 1 1 _) (a_number 1 10 _))

a_record : Item tide_record record_told record_long
a_record = next (a_decider 0 1 _ a_place) (next (a_number 0 1 _) (counted_evenly 1 9 _ an_entry))

pub many : (n : ℕ) → Item (repeat n tide_record) (records_told n) (records_long n)
many n = repeated a_record n

-- ---- no judge refuses by 0

pub judged : Judged tides.fmt
unfolding tides headed
judged = codes_judged front records ((a_decider 0 9 (1 ‥ 511) many).judged end tt)
