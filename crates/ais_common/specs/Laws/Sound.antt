-- What the first tests say of a message, what a message must have to leave them its size alone, and its head as it is got. Assumes nothing.
use Rattle.std.specs.Prelude.{◌≡◌, refl, Bool, true, false, cond, List, ℕ, ◌+◌, ◌≤◌, leb, length}
use Rattle.std.proofs.Common.{◌∙◌, lit≤}
use native.Mathlib.Omega.{arith}
use borrow.Author.Tests.{leb-true, le-leb, eq-eqb}
use Rattle.bits.specs.Answers.{got}
use Rattle.bits.specs.Bits.{field_at}
use Rattle.bits.specs.Laws.Answers.{got_fits}
use Rattle.bits.specs.Laws.Fields.{field_join}
use Rattle.format.specs.Message.{between}
use Rattle.format.specs.Laws.First.{led_between}
use Rattle.ais_common.specs.Lead.{application, head_of, handled, leads, told}
use Rattle.ais_common.specs.declared.head.Asked.{Asked}
use Rattle.ais_common.specs.declared.head.Head.{Head}

where_true : (b : Bool) (x y z : ℕ) → (b ≡ true → x ≡ y) → cond b x z ≡ cond b y z
where_true true x y z f = f refl
where_true false x y z f = refl

module _ (a : Asked) (start offset w : ℕ) (s : List ℕ) where
  abbrev pub lead : ℕ
  lead = leads a (head_of start offset w) s

  -- what passes has its kind's size
  pub sized : lead ≡ 0 → length s ≡ a.bytes
  unfolding told
  sized e = let (l, u) = led_between 23 a.bytes a.bytes (λ s. handled a (head_of start offset w s)) s e in omega arith

  -- a message of that kind, of application n, leaves them its size alone
  pub leaves_size : (n : ℕ) → 23 ≤ length s → start + 16 ≤ 184 → field_at s 0 6 ≡ a.message → field_at s start 10 ≡ 412 → field_at s (start + 10) 6 ≡ n
      → a.application ≡ application n → between 1 a.choices (field_at s offset w) ≡ true → lead ≡ cond (between a.bytes a.bytes (length s)) 0 1
  unfolding told
  leaves_size n long fits message authority number is choice =
      let joined = field_join s start 10 6 (omega arith) in
      let applied : field_at s start 16 ≡ a.application = omega (arith, joined) in
      rw (le-leb 23 (length s) long, eq-eqb (field_at s 0 6) a.message message, eq-eqb (field_at s start 16) a.application applied, choice)

  -- its head, got from within the smallest size
  pub got_lead : (h : Head) → h.message ≡ got s 0 6 → h.application ≡ got s start 16 → h.choice ≡ got s offset w
      → start + 16 ≤ 184 → w ≤ 32 → offset + w ≤ 184 → told a (length s) h ≡ lead
  unfolding told
  got_lead h em ea ec fits narrow there =
      where_true (leb 23 (length s)) _ _ 1 (λ e.
      let long = leb-true 23 (length s) e in
      let m = em ∙ got_fits s 0 6 (lit≤ tt) (omega arith) in
      let p = ea ∙ got_fits s start 16 (lit≤ tt) (omega arith) in
      let c = ec ∙ got_fits s offset w narrow (omega arith) in
      rw (m, p, c))
