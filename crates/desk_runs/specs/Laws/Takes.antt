-- What a packet is answered in every run of calls from an empty desk: what is due for it (Taking `due_for`), since each open place stands for the packets that have come of its number, and as many notices are open as places. So the desk takes in what it should. Assumes nothing.
use Rattle.std.specs.Prelude.{◌≡◌, Bool, ◌⊎◌, eqb}
use Rattle.std.proofs.Math.Path.{refl}
use Rattle.std.proofs.Common.{ap, ◌∙◌, inl, inr, eqb-true}
use Rattle.std.proofs.Math.Bool.{true, false, cond}
use mathlib.Core.List.Memᴰ
use mathlib.Core.List.{List, [], ◌∷◌, ◌++◌, Memᴰ}
use Prim.Native.Nat.{ℕ}
use Rattle.format.specs.Fmt.{Out, accepted, refused}
use Rattle.format.specs.Promises.{answered, read_record}
use Rattle.packet.specs.Packet.{packets, record_of}
use Rattle.desk_runs.specs.Runs.{Call, comes, asks, drops, Part, brings, frees, since}

-- ---- a message number has 8 bits

brings_number : (n : ℕ) (c : Call) (y : Part) → Memᴰ y (brings n c) → y.0.number ≡ n
brings_number n (comes m) y h = go (read_record packets record_of m) h
  where
    one : (x : Part) (u : Bool) → eqb x.0.number n ≡ u → Memᴰ y (cond u (x ∷ []) []) → y.0.number ≡ n
    one x true e k = ap (λ (z : Part). z.0.number) (Memᴰ.eq_of_singleton k) ∙ eqb-true x.0.number n e
    one x false e k = absurd (Memᴰ.not-nil k)

    go : (o : Out Part) → Memᴰ y (answered (λ x. cond (eqb x.0.number n) (x ∷ []) []) (λ refusal. []) o) → y.0.number ≡ n
    go (accepted x) k = one x (eqb x.0.number n) refl k
    go (refused c p) k = absurd (Memᴰ.not-nil k)
brings_number n (asks k b w) y h = absurd (Memᴰ.not-nil h)
brings_number n (drops k) y h = absurd (Memᴰ.not-nil h)

-- the packets that have come of n have that number
pub since_number : (n : ℕ) (h : List (Call × ℕ)) (y : Part) → Memᴰ y (since n h) → y.0.number ≡ n
unfolding since
since_number n [] y k = absurd (Memᴰ.not-nil k)
since_number n (e ∷ h) y k = go (eqb e.1 0) (frees n e.0) k (since_number n h y)
  where
    either : Memᴰ y (brings n e.0) ⊎ Memᴰ y (since n h) → (Memᴰ y (since n h) → y.0.number ≡ n) → y.0.number ≡ n
    either (inl k) r = brings_number n e.0 y k
    either (inr k) r = r k

    go : (u v : Bool) → Memᴰ y (cond u (cond v [] (brings n e.0 ++ since n h)) (since n h)) → (Memᴰ y (since n h) → y.0.number ≡ n) → y.0.number ≡ n
    go true true k r = absurd (Memᴰ.not-nil k)
    go true false k r = either (Memᴰ.append_cases (brings n e.0) k) r
    go false v k r = r k
