-- What each step of judging a record answers, from its values. Assumes nothing.
use Rattle.std.specs.Prelude.{ℕ, ◌+◌, ◌/◌, ◌%◌, Bool, true, false, cond, ◌&&◌, ◌||◌, ◌==◌, nat_le, nat_lt}
use Rattle.format.specs.Message.{between}
use Rattle.format.specs.Refusals.{shown, bare}
use Rattle.format.specs.Refusals.{Verdict}
use Rattle.walk.specs.Walk.{onward}
use Rattle.walk.specs.Walk.{Walk}

-- a record's value
abbrev pub valued : ℕ → ℕ → ℕ → ℕ → Walk → Walk
valued w v lo hi r = onward w true v (cond (nat_le lo v && nat_le v hi) 0 4) 0 r

-- a fill that a record keeps
abbrev pub filled : ℕ → ℕ → Walk → Walk
filled w v r = onward w false v (cond (nat_le 0 v && nat_le v 0) 0 5) 0 r

abbrev pub signedly_valued : ℕ → ℕ → ℕ → ℕ → ℕ → ℕ → Walk → Walk
signedly_valued w v full top bottom none r = onward w true v (cond (nat_lt v full) (cond (nat_le v top || nat_le bottom v || v == none) 0 4) 4) 0 r

-- past w bits with the fault c, however many they are: a caller's bytes may be more than a machine's offset can tell
unfoldable pub beyond : ℕ → ℕ → Walk → Walk
beyond w c r = record {
  at = r.at + w;
  code = cond (r.code == 0) c r.code;
  offset = cond (r.code == 0) (cond (c == 0) 0 r.at) r.offset;
  v = 0;
  seek = r.seek;
  left = r.left;
  found = r.found;
  spot = r.spot;
  width = r.width;
}

-- ---- the message that the values make

-- how many bytes hold the bits up to `at`
abbrev pub bytes_to : ℕ → ℕ
bytes_to at = at / 8 + (at % 8 + 7) / 8

-- and the seal
abbrev pub made : Bool → ℕ → ℕ
made seal at = cond seal (bytes_to at + 1) (bytes_to at)

-- the values' own refusal, the size n that they make (1), room (6)
abbrev pub verdict : Verdict → ℕ → ℕ → ℕ → ℕ → Verdict
verdict own least most room n = cond (own.code == 0) (cond (between least most n) (cond (nat_le n room) (bare 0) (bare 6)) (bare 1)) own

-- after the walk r
abbrev pub closing : Bool → ℕ → ℕ → ℕ → Walk → Verdict
closing seal least most room r = verdict (shown r.code r.offset) least most room (made seal r.at)
