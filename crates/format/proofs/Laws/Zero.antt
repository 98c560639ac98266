-- No call answers 0 but to say that all is well. The number 0, which writing answers to too few or too many values or to a wrong byte count, is met by no values that come from a record. Assumes nothing.
use Rattle.std.specs.Prelude.{◌≡◌, refl, Bool, true, false, cond, List, [], ◌∷◌, ◌++◌, ℕ, zero, suc, ◌+◌, ◌-◌, ◌/◌, ◌^◌, ltb, eqb, length, take, get_or, set}
use Rattle.std.proofs.Common.{sym, ap, ◌∙◌, arith, ltb-true, ltb-false}
use Rattle.bits.specs.Bits.{digits, bits_of, bytes_of, put_at}
use Rattle.bits.specs.Xor.{xor_of}
use Rattle.format.specs.Fmt.{Out, accepted, refused, Fault, good, bad, Judge, Fmt, end, field, choice, bytes, or_bad, check, also, after, read, write_field, sized, write, Spot, none, found, spot, unless10}
use Rattle.format.specs.Message.{Layout, Sound, fault, between, body, sealed, seal_fault, closed, read_message, write_message, correct_message}
use Rattle.format.specs.Laws.Round.{sized_at}
use Rattle.format.proofs.Laws.Round.{write_lay}
use Rattle.format.proofs.Laws.Whole.{correct_narrow, correct_wide}
use Rattle.format.specs.Laws.Zero.{Counted, Numbered, Judged, read_zero}

no_zero_field : (w : ℕ) (j : Judge) (h : List ℕ) (at v : ℕ) (o : Out (List Bool)) (p : ℕ) → Numbered j → (o ≡ refused 0 p → ⊥) → write_field w j h at v o ≡ refused 0 p → ⊥
unfolding write_field
no_zero_field w j h at v o p n k e = go (ltb v (2 ^ w)) (j h (digits w v)) o (n.0 h (digits w v)) k e
  where
    go : (t : Bool) (x : Fault) (o : Out (List Bool)) → ((i : ℕ) → x ≡ bad 0 i → ⊥) → (o ≡ refused 0 p → ⊥)
        → check (or_bad t 4) at (check x at (also (digits w v ++◌) o)) ≡ refused 0 p → ⊥
    go false x o n k e = let z : ◌≡◌ {A = ℕ} 4 0 = cc in omega arith
    go true (bad c i) o n k e = let z : c ≡ 0 = cc in n i (ap (λ c. bad c i) z)
    go true good (accepted b) n k e = let z : ◌≡◌ {A = ℕ} 0 1 = cc in omega arith
    go true good (refused c q) n k e = k e

no_zero_bytes : (n at p : ℕ) (o : Out (List Bool)) → ((b : List Bool) → o ≡ accepted b → length b / 8 ≡ n) → (o ≡ refused 0 p → ⊥) → sized n at o ≡ refused 0 p → ⊥
unfolding sized
no_zero_bytes n at p (accepted b) l k e = let s : sized n at (accepted b) ≡ accepted b = sized_at n at b (l b refl) in let z : ◌≡◌ {A = ℕ} 0 1 = cc in omega arith
no_zero_bytes n at p (refused c q) l k e = k e

pub no_zero : (f : Fmt) (h : List ℕ) (at : ℕ) (vs : List ℕ) (p : ℕ) → Judged f → Counted f at vs → write f h at vs ≡ refused 0 p → ⊥
unfolding write sized
no_zero end h at [] p j c e = let z : ◌≡◌ {A = ℕ} 0 1 = cc in omega arith
no_zero end h at (v ∷ vs) p j c e = c
no_zero (field w k m f) h at [] p j c e = c
no_zero (field w k m f) h at (v ∷ vs) p j c e = no_zero_field w k h at v _ p j.0 (λ x. no_zero f (v ∷ h) (at + w) vs p j.1 c x) e
no_zero (choice w k f) h at [] p j c e = c
no_zero (choice w k f) h at (v ∷ vs) p j c e = no_zero_field w k h at v _ p j.0 (λ x. no_zero (f v) (v ∷ h) (at + w) vs p (j.1 v) c x) e
no_zero (bytes f) h at [] p j c e = c
no_zero (bytes f) h at (n ∷ vs) p j c e =
    no_zero_bytes n at p (write (f n) (n ∷ h) at vs) (λ b x. c.1 b (write_lay (f n) (n ∷ h) at vs b x)) (λ x. no_zero (f n) (n ∷ h) at vs p (j n) c.0 x) e

-- Writing values that come from a record never answers 0.
pub no_zero_message : (l : Layout) (vs : List ℕ) (p : ℕ) → Judged l.fmt → Counted l.fmt 0 vs → write_message l vs ≡ refused 0 p → ⊥
unfolding write_message
no_zero_message l vs p j c e = go (l.kind vs) (write l.fmt [] 0 vs) (λ x. no_zero l.fmt [] 0 vs p j c x) e
  where
    done : (x : Bool) (t : List ℕ) → check (fault (cond x 0 1)) 0 (accepted t) ≡ refused 0 p → ⊥
    done true t e = let z : ◌≡◌ {A = ℕ} 0 1 = cc in omega arith
    done false t e = let z : ◌≡◌ {A = ℕ} 1 0 = cc in omega arith

    go : (k : ℕ) (o : Out (List Bool)) → (o ≡ refused 0 p → ⊥) → check (fault k) 0 (after o (closed l)) ≡ refused 0 p → ⊥
    go (suc k) o n e = let z : suc k ≡ 0 = cc in omega arith
    go zero (refused d q) n e = let x : d ≡ 0 = cc in let y : q ≡ p = cc in n (rw (x, y) refl)
    go zero (accepted b) n e = let t = sealed l.seal (bytes_of (length b / 8) b) in done (between l.least l.most (length t)) t e

-- ---- reading and correcting

pub read_zero_message : (l : Layout) (s : List ℕ) (p : ℕ) → Judged l.fmt → read_message l s ≡ refused 0 p → ⊥
unfolding read_message
read_zero_message l s p j e = go (l.lead s) l.seal e
  where
    lifted : (z : Bool) (o : Out (List ℕ)) → (o ≡ refused 0 p → ⊥) → check (seal_fault z s) 0 o ≡ refused 0 p → ⊥
    lifted false o k e = k e
    lifted true o k e = stamped (eqb (get_or s (length s - 1) 0) (xor_of (take (length s - 1) s))) e
      where
        stamped : (t : Bool) → check (or_bad t 3) 0 o ≡ refused 0 p → ⊥
        stamped true e = k e
        stamped false e = let z : ◌≡◌ {A = ℕ} 3 0 = cc in omega arith

    go : (c : ℕ) (z : Bool) → check (fault c) 0 (check (seal_fault z s) 0 (read l.fmt [] 0 (bits_of (body z s)))) ≡ refused 0 p → ⊥
    go (suc c) z e = let y : suc c ≡ 0 = cc in omega arith
    go zero z e = lifted z _ (λ x. read_zero l.fmt [] 0 (bits_of (body z s)) p j x) e

-- A correction that answers 0 was accepted.
pub correct_zero : (l : Layout) → Sound l → (s : List ℕ) (i v p : ℕ) → Judged l.fmt → correct_message l s i v ≡ refused 0 p → ⊥
unfolding correct_message
correct_zero l ok s i v p j e = go (read_message l s) refl e
  where
    put : (vs : List ℕ) (q w : ℕ) → read_message l s ≡ accepted vs → spot l.fmt [] vs i ≡ found q w → (t : Bool) → ltb v (2 ^ w) ≡ t → ⊥
    put vs q w r x false y =
        let z = correct_wide l ok s vs i v q w r x (ltb-false v (2 ^ w) y) in
        let z : ◌≡◌ {A = ℕ} 4 0 = cc in omega arith
    put vs q w r x true y = again (read l.fmt [] 0 (bits_of (put_at (body l.seal s) q w v))) (λ x. read_zero l.fmt [] 0 _ p j x) (sym (correct_narrow l ok s vs i v q w r x (ltb-true v (2 ^ w) y)) ∙ e)
      where
        again : (o : Out (List ℕ)) → (o ≡ refused 0 p → ⊥) → also (λ us. sealed l.seal (put_at (body l.seal s) q w v)) o ≡ refused 0 p → ⊥
        again (accepted us) k e = let z : ◌≡◌ {A = ℕ} 0 1 = cc in omega arith
        again (refused c q) k e = k e

    spotted : (vs : List ℕ) → read_message l s ≡ accepted vs → (x : Spot) → spot l.fmt [] vs i ≡ x → unless10 x (write_message l (set vs i v)) ≡ refused 0 p → ⊥
    spotted vs r none x e = let z : ◌≡◌ {A = ℕ} 10 0 = cc in omega arith
    spotted vs r (found q w) x e = put vs q w r x (ltb v (2 ^ w)) refl

    go : (o : Out (List ℕ)) → read_message l s ≡ o → after o (λ vs. unless10 (spot l.fmt [] vs i) (write_message l (set vs i v))) ≡ refused 0 p → ⊥
    go (refused c q) r e = read_zero_message l s p j (r ∙ e)
    go (accepted vs) r e = spotted vs r (spot l.fmt [] vs i) refl e
