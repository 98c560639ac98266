-- Writing a message of any layout whose values a lent row tells, from its judging and its room: a row that is too short leaves no room. Assumes nothing.
use Rattle.std.specs.Prelude.{◌≡◌, ℕ, ◌<◌, ◌≤◌, Bool, true, false, cond, ◌&&◌, List, [], length, ◌==◌, ◌≢◌, nat_le, refl}
use Rattle.std.proofs.Common.{sym, ap, ◌∙◌, arith, ne_eqb, eqb-true, leb-true, leb-false, lt-ltb, le-ltb}
use Rattle.std.proofs.lemmas.Bool.{eqb-false}
use Rattle.format.specs.Fmt.{check, write}
use Rattle.format.specs.Message.{Layout, fault, write_message}
use Rattle.format.specs.Promises.{room_for, Lays}
use Rattle.format.specs.Refusals.{shown, bare}
use Rattle.format.specs.Refusals.{Verdict}
use Rattle.format.specs.Laws.Putting.{Puts}
use Rattle.walk.specs.Judging.{bytes_to, closing}
use Rattle.walk.specs.Laws.Judging.{Judged}
use Rattle.walk.specs.Laws.Making.{write_refused, write_bare}
use Rattle.walk.specs.Walk.{Walk}

-- what an answer without refusal says of the walk r: no refusal, a size that may be, and room
pub record Closes (least most room : ℕ) (r : Walk) : Type 0 where
  pub clean : r.code ≡ 0
  pub enough : least ≤ bytes_to r.at
  pub small : bytes_to r.at ≤ most
  pub fits : bytes_to r.at ≤ room

pub closes : (least most room : ℕ) (r : Walk) → (closing false least most room r).code ≡ 0 → Closes least most room r
closes least most room r = go (r.code == 0) (nat_le least n) (nat_le n most) (nat_le n room) refl refl refl refl
  where
    n : ℕ
    n = bytes_to r.at

    go : (x y u z : Bool) → (r.code == 0) ≡ x → nat_le least n ≡ y → nat_le n most ≡ u → nat_le n room ≡ z → (cond x (cond (y && u) (cond z (bare 0) (bare 6)) (bare 1)) (shown r.code r.offset)).code ≡ 0 → Closes least most room r
    go true true true true ex ey eu ez k = record { clean = eqb-true r.code 0 ex; enough = leb-true least n ey; small = leb-true n most eu; fits = leb-true n room ez }
    go true true true false ex ey eu ez k = absurd (omega (arith, k))
    go true true false z ex ey eu ez k = absurd (omega (arith, k))
    go true false u z ex ey eu ez k = absurd (omega (arith, k))
    go false y u z ex ey eu ez k = absurd (eqb-false r.code 0 ex k)

-- after a refusal room is not looked at
any_room : (least most a b : ℕ) (r : Walk) → (r.code ≢ 0) → closing false least most a r ≡ closing false least most b r
any_room least most a b r n = rw (ne_eqb r.code 0 n) refl

-- Values vs that a row of `has` numbers tells were judged by the walk r; where nothing was refused, it was asked for `asked` numbers.
module _ (l : Layout) (vs s : List ℕ) (r : Walk) (j : Judged (check (fault (l.kind vs)) 0 (write l.fmt [] 0 vs)) r) (unsealed : l.seal ≡ false) (some : 0 < l.least)
    (has asked long : ℕ) (count : r.code ≡ 0 → asked ≡ long) {room : ℕ} {code : Verdict} (is : room ≡ room_for has asked (length s)) (e : code ≡ closing false l.least l.most room r) where
  -- the room is the buffer's where the row has enough, else none
  room_is : r.code ≡ 0 → (b : Bool) → nat_le long has ≡ b → room ≡ cond b (length s) 0
  room_is z true y = let n = count z in let k = leb-true long has y in is ∙ rw (le-ltb has asked (omega (arith, n, k))) refl
  room_is z false y = let n = count z in let k = leb-false long has y in is ∙ rw (lt-ltb has asked (omega (arith, n, k))) refl

  closed_as_lem : (b : Bool) → nat_le long has ≡ b → code ≡ closing false l.least l.most (cond b (length s) 0) r
  closed_as_lem b y = go (r.code == 0) refl
    where
      go : (t : Bool) → (r.code == 0) ≡ t → code ≡ closing false l.least l.most (cond b (length s) 0) r
      go true t = e ∙ ap (λ n. closing false l.least l.most n r) (room_is (eqb-true r.code 0 t) b y)
      go false t = e ∙ any_room l.least l.most room (cond b (length s) 0) r (eqb-false r.code 0 t)

  -- the same with the layout's own seal, which is none
  sealed_as : (b : Bool) → nat_le long has ≡ b → code ≡ closing l.seal l.least l.most (cond b (length s) 0) r
  sealed_as b y = rw unsealed (closed_as_lem b y)

  -- nothing is written
  pub row_refused : (code.code ≢ 0) → Lays (nat_le long has) (write_message l vs) s code s
  row_refused n = go (nat_le long has) refl
    where
      go : (b : Bool) → nat_le long has ≡ b → Lays b (write_message l vs) s code s
      go true y = write_refused l vs s j (sealed_as true y) n
      go false y = ((write_refused l vs [] j (sealed_as false y) n).0, refl)

  -- what was put stands in front
  pub row_stands : {t : List ℕ} → code.code ≡ 0 → Puts l.fmt vs s t → Lays (nat_le long has) (write_message l vs) s (bare 0) t
  row_stands {t} z p = go (nat_le long has) refl
    where
      go : (b : Bool) → nat_le long has ≡ b → Lays b (write_message l vs) s (bare 0) t
      go true y = write_bare l vs s j unsealed (sealed_as true y) z p
      go false y = let k = closes l.least l.most 0 r (ap (λ c. c.code) (sym (closed_as_lem false y)) ∙ z) in absurd (omega (arith, k.enough, k.fits, some))
