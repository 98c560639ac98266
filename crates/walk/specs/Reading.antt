-- What each step of reading answers, from the bytes. Assumes nothing.
use Rattle.std.specs.Prelude.{ℕ, ◌+◌, ◌*◌, ◌%◌, ◌^◌, Bool, true, false, cond, List, length, ◌==◌, nat_le}
use Rattle.bits.specs.Answers.{within, got}
use Rattle.format.specs.Fmt.{pad}
use Rattle.walk.specs.Faults.{ranging, signing, blanking, closes}
use Rattle.walk.specs.Pieces.{Pieces, unpieced, lying}
use Rattle.walk.specs.Walk.{Walk, sticks, onward}

abbrev pub ranged : List ℕ → ℕ → Bool → ℕ → ℕ → ℕ → Walk → Walk
ranged s w free lo hi c r = onward w free (got s r.at w) (ranging s r.at w lo hi c) 0 r

-- a number that the caller judged, with the fault c
abbrev pub given : List ℕ → ℕ → ℕ → Walk → Walk
given s w c r = onward w false (got s r.at w) (cond (within (length s) r.at w) c 1) 0 r

-- content
abbrev pub carried : List ℕ → ℕ → Walk → Walk
carried s w r = onward w false 0 (cond (nat_le (r.at + w) (length s * 8)) 0 1) 0 r

-- a fill of any width
abbrev pub blanked : List ℕ → ℕ → Walk → Walk
blanked s w r = onward w false 0 (blanking s r.at w) 0 r

abbrev pub signedly : List ℕ → ℕ → ℕ → ℕ → ℕ → Walk → Walk
signedly s w top bottom none r = onward w true (got s r.at w) (signing s r.at w top bottom none) 0 r

-- ---- groups: parts that are corrected as one number

-- past a field of w bits with the value v: g is what judging its parts led to
abbrev pub grouped : ℕ → ℕ → Pieces → Walk → Walk
grouped w v g r = onward w true v g.code g.into r

-- `judge` judges the bits that there are
abbrev pub group_read : List ℕ → ℕ → (Pieces → Pieces) → Walk → Walk
group_read s w judge r = grouped w (got s r.at w) (judge (lying s r.at w)) r

-- a record's value
abbrev pub group_judged : ℕ → (Pieces → Pieces) → ℕ → Walk → Walk
group_judged w judge v r = grouped w v (judge (unpieced w v)) r

-- ---- the end

unfoldable pub ended : List ℕ → Walk → Walk
ended s r = let c = closes s r.at in let x = sticks c (cond (c == 5) 0 (pad r.at)) r in record {
  at = r.at;
  code = x.code;
  offset = x.bit;
  v = 0;
  seek = false;
  left = 0;
  found = cond r.seek false r.found;
  spot = cond r.seek 0 r.spot;
  width = cond r.seek 0 r.width;
}
