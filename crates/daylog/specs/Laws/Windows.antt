-- However a log is cut into windows, the texts made one after the other are its listing. Assumes nothing.
use Rattle.std.specs.Prelude.{◌≡◌, ℕ, zero, suc, ◌+◌, ◌-◌, ◌≤◌, Bool, true, false, cond, List, [], ◌∷◌, ◌++◌, length, take, drop, nat_le, refl}
use Rattle.std.proofs.Common.{ap, ◌∙◌, append_assoc, arith, length-take, length-drop}
use Rattle.std.proofs.Math.Nat.{sub-zero}
use Rattle.daylog.specs.Records.{Entry, front, opened, records, size_of}
use Rattle.daylog.specs.Kinds.{entry_line}
use Rattle.daylog.specs.Log.{after, after_all, lines, ending_of, listing_from}
use Rattle.daylog.specs.Promises.{listed, chosen, Lists}
use Rattle.daylog.specs.Laws.Records.{front_size, records_empty, records_open}
use Rattle.daylog.specs.Promises.{Listed}
use Rattle.daylog.specs.declared.records.Next.{Next}
use Rattle.daylog.specs.declared.records.Next.TheVariants.{Record, Bad, Short}

-- the record that s begins with
abbrev pub entry_at : List ℕ → ℕ → ℕ → Entry
entry_at s k n = record { kind = k; body = take n (drop 4 s) }

module _ (s : List ℕ) (k n : ℕ) (e : front s ≡ Record k n) where
  pub records_next : records s ≡ entry_at s k n ∷ records (drop (4 + n) s)
  records_next = records_open s ∙ ap (λ x. opened x s records) e

  pub body_size : length (entry_at s k n).body ≡ n
  body_size = simp (length-take, length-drop) (omega (arith, (front_size s k n e).0))

-- no whole record: all bytes are left
pub no_records : (s : List ℕ) → (records s ≡ []) → (n : ℕ) → listing_from n s ≡ ending_of n (length s)
unfolding listing_from lines after_all size_of
no_records s e n = rw (e, sub-zero (length s))

-- a whole record: its line, then the listing of the bytes after it
pub one_record : (s : List ℕ) (k m n : ℕ) → front s ≡ Record k m → listing_from n s ≡ entry_line n (entry_at s k m) ++ listing_from (after n) (drop (4 + m) s)
unfolding listing_from lines after_all size_of
one_record s k m n e =
    let d = drop (4 + m) s in
    let z : length s - (4 + length (take m (drop 4 s)) + size_of (records d)) ≡ length d - size_of (records d) = rw (body_size s k m e, length-drop (4 + m) s) (omega arith) in
    rw
    (records_next s k m e, z)
    (append_assoc
    (entry_line n (entry_at s k m))
    (lines (after n) (records d))
    (ending_of (after_all (after n) (records d)) (length d - size_of (records d))))

-- records that take no bytes are none
pub none_used : (es : List Entry) → size_of es ≡ 0 → es ≡ []
unfolding size_of
none_used [] h = refl
none_used (e ∷ es) h = absurd (omega arith)

-- ---- windows

-- the records es are the first ones of s
pub data Begins : List ℕ → List Entry → Type 0 where
  none : {s : List ℕ} → Begins s []
  one : {s : List ℕ} {k m : ℕ} {es : List Entry} → front s ≡ Record k m → Begins (drop (4 + m) s) es → Begins s (entry_at s k m ∷ es)

pub begins : (f : ℕ) (s : List ℕ) (room n : ℕ) → length s ≤ f → Begins s (listed room n (records s))
unfolding listed
begins zero s room n h = rw (records_empty s h) none
begins (suc f) s room n h = go (front s) refl (λ k m. begins f (drop (4 + m) s) (room - length (entry_line n (entry_at s k m))) (after n) (simp length-drop (omega arith)))
  where
    pick : (k m : ℕ) (es : List Entry) → front s ≡ Record k m → Begins (drop (4 + m) s) es → (b : Bool) → Begins s (cond b (entry_at s k m ∷ es) [])
    pick k m es e x true = one e x
    pick k m es e x false = none

    go : (x : Next) → front s ≡ x
        → ((k m : ℕ) → Begins (drop (4 + m) s) (listed (room - length (entry_line n (entry_at s k m))) (after n) (records (drop (4 + m) s))))
        → Begins s (listed room n (records s))
    go (Record k m) e r = rw (records_next s k m e) (pick k m _ e (r k m) (nat_le (length (entry_line n (entry_at s k m))) room))
    go Bad e r = rw (records_open s, e) none
    go Short e r = rw (records_open s, e) none

begins_size : {s : List ℕ} {es : List Entry} → Begins s es → size_of es ≤ length s
unfolding size_of
begins_size none = omega arith
begins_size {s} (one {k = k} {m = m} {es = es} e x) =
    let l = begins_size x in
    omega (arith, (front_size s k m e).0, body_size s k m e, length-drop (4 + m) s)

-- What is listed lies within the window.
pub chosen_within : (s : List ℕ) (n : ℕ) (out : List ℕ) → size_of (chosen s n out) ≤ length s
chosen_within s n out = begins_size (begins (length s) s (length out) n (omega arith))

pub used_within : {s : List ℕ} {n : ℕ} {out : List ℕ} {r : Listed} {left : List ℕ} → Lists s n out r left → r.used ≤ length s
used_within {s} {n} {out} p = omega (arith, p.used, chosen_within s n out)
