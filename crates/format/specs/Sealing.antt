-- What making a seal leaves. Assumes nothing.
use Rattle.std.specs.Prelude.{Bool, true, false, cond, List, ◌++◌, ℕ, suc, ltb, eqb, length, take, drop}
use Rattle.format.specs.Message.{body, sealed}

-- the last byte made the XOR of all before it; nothing has none
unfoldable pub resealed : List ℕ → List ℕ
resealed s = cond (eqb (length s) 0) s (sealed true (body true s))

-- byte n made the XOR of all before it; where there is none, nothing
unfoldable pub stamped : ℕ → List ℕ → List ℕ
stamped n s = cond (ltb n (length s)) (sealed true (take n s) ++ drop (suc n) s) s

-- the same where the layout has a seal
abbrev pub reclosed : Bool → List ℕ → List ℕ
reclosed false s = s
reclosed true s = resealed s
