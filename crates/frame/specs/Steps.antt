-- What the code's steps over a frame's head answer and leave. Assumes nothing.
use Rattle.std.specs.Prelude.{ℕ, true, false, List}
use Rattle.format.specs.Correcting.{put_in}
use Rattle.walk.specs.Judging.{valued}
use Rattle.walk.specs.Reading.{ranged}
use Rattle.walk.specs.Walk.{begun, onward}
use Rattle.walk.specs.Walk.{Walk}

-- read, the length from lo to hi
abbrev pub headed : List ℕ → ℕ → ℕ → ℕ → Walk
headed s letters lo hi =
    ranged s 24 true 0 2_097_151 4 (ranged s 16 false lo hi 1 (ranged s 32 false letters letters 2 (ranged s 8 false 0x24 0x24 2 (begun 0 0))))

-- judged
abbrev pub head_judged : ℕ → ℕ → ℕ → Walk
head_judged letters length address = valued 24 address 0 2_097_151 (onward 16 false length 0 0 (onward 32 false letters 0 0 (onward 8 false 0x24 0 0 (begun 0 0))))

-- put
abbrev pub head_put : ℕ → ℕ → ℕ → List ℕ → List ℕ
head_put letters length address t = put_in (put_in (put_in (put_in t 0 8 0x24) 8 32 letters) 40 16 length) 56 24 address
