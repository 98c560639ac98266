-- What is told of a whole message's refusal: no bit where its first tests, its seal or its size refuse, else the first bit of the first bad field, which lies within the message or where it ends. For every layout, from laws/Places. Assumes nothing.
use Rattle.std.specs.Prelude.{◌≡◌, refl, Bool, true, false, ◌⊎◌, List, [], ℕ, zero, suc, ◌+◌, ◌*◌, ◌/◌, ◌%◌, ◌^◌, ◌≤◌, ltb, length, set}
use Rattle.std.proofs.Common.{sym, ◌∙◌, inl, inr, arith, ltb-true, ltb-false}
use Rattle.bits.specs.Bits.{bits_of, bytes_of, put_at}
use Rattle.bits.specs.Laws.Bytes.{length_bits}
use Rattle.bits.specs.Laws.Fields.{length_put}
use Rattle.format.specs.Fmt.{Out, accepted, refused, check, after, read, write, Spot, none, found, spot, unless10}
use Rattle.format.specs.Message.{Layout, Sound, fault, size, body, sealed, first, closed, read_message, write_message, correct_message}
use Rattle.format.specs.Places.{FirstBad, FirstBadValue}
use Rattle.format.specs.Laws.Lead.{read_first}
use Rattle.format.specs.Laws.Places.{also_refused, read_first_bad, read_inside}
use Rattle.format.proofs.Laws.Places.{write_first_bad}
use Rattle.format.specs.Laws.Round.{clash, refused_inj}
use Rattle.format.specs.Laws.Sealing.{length_body}
use Rattle.format.proofs.Laws.Whole.{spot_fits, correct_narrow, correct_wide}
use Rattle.format.specs.Laws.Zero.{Judged}

-- ---- reading

-- A refused message: its first tests and its seal give no bit; else they are good, and the bit is where its first bad field starts.
pub message_first_bad : (l : Layout) (s : List ℕ) (c p : ℕ) → read_message l s ≡ refused c p → ((c ≡ first l s) × (p ≡ 0)) ⊎ ((first l s ≡ 0) × FirstBad l.fmt [] 0 (bits_of (body l.seal s)) c p)
message_first_bad l s c p e = go (first l s) refl (sym (read_first l s refl) ∙ e)
  where
    o : Out (List ℕ)
    o = read l.fmt [] 0 (bits_of (body l.seal s))

    go : (d : ℕ) → first l s ≡ d → check (fault d) 0 o ≡ refused c p → ((c ≡ first l s) × (p ≡ 0)) ⊎ ((first l s ≡ 0) × FirstBad l.fmt [] 0 (bits_of (body l.seal s)) c p)
    go zero k e = inr (k, read_first_bad l.fmt [] 0 (bits_of (body l.seal s)) c p e)
    go (suc d) k e = let (x, y) = refused_inj e in inl (sym x ∙ sym k, omega (arith, y))

-- fields that are refused are refused within their bytes
fields_inside : (l : Layout) (t : List ℕ) (c p : ℕ) → Judged l.fmt → read l.fmt [] 0 (bits_of t) ≡ refused c p → p ≤ length t * 8
fields_inside l t c p j e =
    let n = length_bits t in
    let even : (0 + length (bits_of t)) % 8 ≡ 0 = omega (arith, n) in
    omega (arith, n, (read_inside l.fmt [] 0 (bits_of t) c p j even (read_first_bad l.fmt [] 0 (bits_of t) c p e)).1)

pub message_inside : (l : Layout) (s : List ℕ) (c p : ℕ) → Judged l.fmt → read_message l s ≡ refused c p → p ≤ length s * 8
message_inside l s c p j e = go (first l s) (sym (read_first l s refl) ∙ e)
  where
    go : (d : ℕ) → check (fault d) 0 (read l.fmt [] 0 (bits_of (body l.seal s))) ≡ refused c p → p ≤ length s * 8
    go zero e = omega (arith, fields_inside l (body l.seal s) c p j e, length_body l.seal s)
    go (suc d) e = let (x, y) = refused_inj e in omega (arith, y)

-- ---- correcting

-- The bit of a correction lies within the message too, or where it ends.
pub correction_inside : (l : Layout) → Sound l → (s : List ℕ) (i v c p : ℕ) → Judged l.fmt → correct_message l s i v ≡ refused c p → p ≤ length s * 8
unfolding correct_message
correction_inside l ok s i v c p j e = go (read_message l s) refl e
  where
    changed : (vs : List ℕ) (q w : ℕ) → read_message l s ≡ accepted vs → spot l.fmt [] vs i ≡ found q w → (t : Bool) → ltb v (2 ^ w) ≡ t → p ≤ length s * 8
    changed vs q w r x false y =
        let k = spot_fits l ok s vs i v q w r x in
        let z = refused_inj (sym (correct_wide l ok s vs i v q w r x (ltb-false v (2 ^ w) y)) ∙ e) in
        omega (arith, z.1, k, length_body l.seal s)
    changed vs q w r x true y =
        let b = put_at (body l.seal s) q w v in
        let again = also_refused (λ us. sealed l.seal b) (read l.fmt [] 0 (bits_of b)) (sym (correct_narrow l ok s vs i v q w r x (ltb-true v (2 ^ w) y)) ∙ e) in
        omega (arith, fields_inside l b c p j again, length_put (body l.seal s) q w v, length_body l.seal s)

    spotted : (vs : List ℕ) → read_message l s ≡ accepted vs → (x : Spot) → spot l.fmt [] vs i ≡ x → unless10 x (write_message l (set vs i v)) ≡ refused c p → p ≤ length s * 8
    spotted vs r none x e = let (y, z) = refused_inj e in omega (arith, z)
    spotted vs r (found q w) x e = changed vs q w r x (ltb v (2 ^ w)) refl

    go : (o : Out (List ℕ)) → read_message l s ≡ o → after o (λ vs. unless10 (spot l.fmt [] vs i) (write_message l (set vs i v))) ≡ refused c p → p ≤ length s * 8
    go (refused d q) r e = message_inside l s c p j (r ∙ e)
    go (accepted vs) r e = spotted vs r (spot l.fmt [] vs i) refl e

-- ---- writing

-- a test before the fields gives no bit, nor does one after them
early : (k : ℕ) (t : List ℕ) {c p : ℕ} → check (fault k) 0 (accepted t) ≡ refused c p → p ≡ 0
early zero t e = clash (sym e)
early (suc k) t e = let (x, y) = refused_inj e in omega (arith, y)

-- Values that are refused: their kind and the size that they make give no bit; else it is where the first bad value's field would start.
pub values_first_bad : (l : Layout) (vs : List ℕ) (c p : ℕ) → write_message l vs ≡ refused (suc c) p → (p ≡ 0) ⊎ FirstBadValue l.fmt [] 0 vs (suc c) p
unfolding write_message
values_first_bad l vs c p e = go (l.kind vs) (write l.fmt [] 0 vs) refl e
  where
    go : (k : ℕ) (o : Out (List Bool)) → write l.fmt [] 0 vs ≡ o → check (fault k) 0 (after o (closed l)) ≡ refused (suc c) p → (p ≡ 0) ⊎ FirstBadValue l.fmt [] 0 vs (suc c) p
    go (suc k) o w e = let (x, y) = refused_inj e in inl (omega (arith, y))
    go zero (refused d q) w e = let (x, y) = refused_inj e in inr (write_first_bad l.fmt [] 0 vs c p (w ∙ (λ i. refused (x i) (y i))))
    go zero (accepted b) w e = inl (early (size l (length (sealed l.seal (bytes_of (length b / 8) b)))) _ e)
