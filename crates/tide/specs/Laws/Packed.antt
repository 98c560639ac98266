-- An entry put as one number of 32 bits is its three numbers put side by side: a put of a + b bits is two puts, twice over. Assumes nothing.
use Rattle.std.specs.Prelude.{ℕ, ◌+◌, ◌*◌, ◌≤◌, ◌<◌, ◌^◌, ◌≡◌, cond, List, ◌++◌, length, take, drop}
use Rattle.std.proofs.Common.{sym, ap, ap₂, ◌∙◌, append_assoc, add_assoc, arith, lit≤, length-append, length-take, length-drop, take-append-drop, drop-drop}
use Rattle.bits.specs.Bits.{digits, bits_of, bytes_of, put_at}
use Rattle.bits.specs.Laws.Answers.{puttable_fits}
use Rattle.bits.specs.Laws.Bytes.{length_bits}
use Rattle.bits.specs.Laws.Digits.{length_digits, digits_two}
use Rattle.bits.specs.Laws.Fields.{length_put, bits_put, put_split}
use Rattle.format.specs.Correcting.{put_in}

-- two fields put side by side are one
put_join : (s : List ℕ) (at a b u : ℕ) {v : ℕ} → at + (a + b) ≤ length s * 8 → v < 2 ^ b → put_at s at (a + b) (u * 2 ^ b + v) ≡ put_at (put_at s at a u) (at + a) b v
unfolding put_at
put_join s at a b u {v} fits small =
    let t = put_at s at a u in
    let old = bits_of s in
    let front = take at old in
    let split : bits_of t ≡ (front ++ digits a u) ++ (take b (drop (at + a) old) ++ drop (at + (a + b)) old) =
    bits_put s at a (omega arith) u ∙ sym (append_assoc front (digits a u) (drop (at + a) old))
    ∙ ap ((front ++ digits a u) ++◌) (sym (take-append-drop b (drop (at + a) old)) ∙ ap (take b (drop (at + a) old) ++◌) (drop-drop b (at + a) old ∙ ap (λ n. drop n old) (add_assoc at a b))) in
    let before : length (front ++ digits a u) ≡ at + a = simp (length-append, length-take, length_digits, length_bits) (omega arith) in
    let mid : length (take b (drop (at + a) old)) ≡ b = simp (length-take, length-drop, length_bits) (omega arith) in
    sym (put_split t (at + a) b (front ++ digits a u) (take b (drop (at + a) old)) (drop (at + (a + b)) old) split before mid v
    ∙ ap₂ bytes_of (length_put s at a u) (append_assoc front (digits a u) (digits b v ++ drop (at + (a + b)) old)
    ∙ ap (front ++◌) (sym (append_assoc (digits a u) (digits b v) (drop (at + (a + b)) old)) ∙ ap (◌++ drop (at + (a + b)) old) (sym (digits_two a b u small)))))

module _ (t : List ℕ) (at : ℕ) (fits : at + 32 ≤ length t * 8) (time sign value : ℕ) (narrow : time < 2 ^ 21) (bit : sign < 2 ^ 1) (small : value < 2 ^ 10) where
  pub entry_packed : put_in t at 32 ((time * 2 ^ 1 + sign) * 2 ^ 10 + value) ≡ put_in (put_in (put_in t at 21 time) (at + 21) 1 sign) (at + 21 + 1) 10 value
  entry_packed =
      let one = put_at t at 21 time in
      let two = put_at one (at + 21) 1 sign in
      let long = length_put t at 21 time in
      let long2 = length_put one (at + 21) 1 sign in
      let put1 : put_in t at 21 time ≡ one = ap (λ b. cond b one t) (puttable_fits t at 21 time (lit≤ tt) (omega arith) narrow) in
      let put2 : put_in one (at + 21) 1 sign ≡ two = ap (λ b. cond b two one) (puttable_fits one (at + 21) 1 sign (lit≤ tt) (omega (arith, long)) bit) in
      let put3 : put_in two (at + 21 + 1) 10 value ≡ put_at two (at + 21 + 1) 10 value =
      ap (λ b. cond b (put_at two (at + 21 + 1) 10 value) two) (puttable_fits two (at + 21 + 1) 10 value (lit≤ tt) (omega (arith, long, long2)) small) in
      let all = (time * 2 ^ 1 + sign) * 2 ^ 10 + value in
      let whole : put_in t at 32 all ≡ put_at t at 32 all = ap (λ b. cond b (put_at t at 32 all) t) (puttable_fits t at 32 all (lit≤ tt) fits (omega arith)) in
      whole ∙ put_join t at 22 10 (time * 2 ^ 1 + sign) fits small
      ∙ ap₂ (λ s a. put_at s a 10 value) (put_join t at 21 1 time (omega arith) bit) (sym (add_assoc at 21 1))
      ∙ sym (ap (λ s. put_in (put_in s (at + 21) 1 sign) (at + 21 + 1) 10 value) put1 ∙ ap (λ s. put_in s (at + 21 + 1) 10 value) put2 ∙ put3)
