-- What each call of the desk comes to: success as it should be, or a refusal by a number that is not 0, with nothing changed; asking may also list missing numbers, which is 9 and changes the row alone. By the definitions' tests in order. Assumes nothing.
use Rattle.std.specs.Prelude.{◌≡◌, Bool, cond, ◌&&◌, ◌||◌, leb, length}
use Rattle.std.proofs.Math.Path.{refl}
use Rattle.std.proofs.Common.{sym, ap, ◌∙◌, subst, arith, ltb-true, ltb-false, leb-true, eqb-true}
use Rattle.std.proofs.Math.Bool.{true, false, and-eq-true_iff}
use mathlib.Core.List.{List}
use Prim.Native.Nat.{ℕ, ◌≤◌, ◌<◌}
use Rattle.std.proofs.Math.Dec.{ltb, eqb}
use Rattle.std.proofs.lemmas.Bool.{eqb-false, not-false}
use Rattle.format.specs.Fmt.{Out, accepted, refused}
use Rattle.format.specs.Message.{ahead, told}
use Rattle.format.specs.Promises.{answered, read_record}
use Rattle.format.specs.Refusals.{shown, bare}
use Rattle.format.specs.Refusals.{Verdict}
use Rattle.format.proofs.Laws.Family.{never_read}
use Rattle.packet.specs.Packet.{packets, record_of}
use Rattle.packet.specs.Laws.Demands.{family}
use Rattle.packet.specs.declared.reading.Packet.{Packet}
use Rattle.places.specs.Places.{lacks, freed, held, opened, holding, four_places, place_at, front, good_places, open_at, free_at}
use Rattle.places.specs.Desk.{store_bytes, in_cell_of, alike, refusal_of, stays, turns, first_tests, Accepting, turned_away, taken, contradicts, joins, opens, received, accepting, Asking, not_answered, missing_below, joined_below, answers, asking, Dropping, dropping}
use Rattle.places.specs.declared.Place.{Place}
use Rattle.places.specs.Replies.{Done, Again, Joined, Missing, Refused}
use Rattle.places.specs.Laws.Alike.{alike_same}
use Rattle.places.specs.Laws.Front.{front_open, front_free, front_at, open_found, open_none, free_found}
use Rattle.places.specs.Laws.Taken.{Takes, lacking, holding_it, new, takes_zero}

-- the first tests refuse by 4 or 6
tests_number : (ps : List Place) (s : List ℕ) → first_tests ps s ≡ 9 → ⊥
unfolding first_tests
tests_number ps s = go (leb four_places (length ps) && leb store_bytes (length s)) (good_places ps)
  where
    go : (u v : Bool) → ◌≡◌ {A = ℕ} (cond u (cond v 0 4) 6) 9 → ⊥
    go true true e = omega (arith, e)
    go true false e = omega (arith, e)
    go false v e = omega (arith, e)

-- ---- what each call comes to

-- a packet m: it is taken in, as it should be; it is refused as reading refuses it, with its bit; or the desk refuses it, and tells no bit. A refusal changes nothing
pub data Accepted (ps : List Place) (s m : List ℕ) : Accepting → Type 0 where
  takes : (x : Packet × List ℕ) → read_record packets record_of m ≡ accepted x → first_tests ps s ≡ 0 → (o : Accepting) → Takes ps s x.0 x.1 o → Accepted ps s m o
  unread : (c p : ℕ) → read_record packets record_of m ≡ refused c p → (c ≡ 0 → ⊥) → Accepted ps s m (turned_away s (shown c p))
  away : (x : Packet × List ℕ) → read_record packets record_of m ≡ accepted x → (code : ℕ) → (code ≡ 0 → ⊥) → Accepted ps s m (turned_away s (bare code))

-- the open place of message number n, what it lacks and what it holds
module _ (ps : List Place) (n : ℕ) where
  abbrev pub its : ℕ
  its = open_at (front ps) n

  abbrev pub notice : Place
  notice = place_at (front ps) its

  abbrev pub without : List ℕ
  without = missing_below notice.total notice

  abbrev pub whole : List ℕ → List ℕ
  whole s = joined_below notice.total s its notice

-- a notice is handed out, or its missing numbers are listed
abbrev pub handing : List ℕ → ℕ → Place → List ℕ → List ℕ → Asking
handing c i p b w = record { reply = Joined (length c) p.language; change = turns i (freed p); notice = ahead c b; missing = w }

abbrev pub listing : List ℕ → List ℕ → List ℕ → Asking
listing ns b w = record { reply = Missing (length ns); change = stays; notice = b; missing = ahead ns w }

-- message number n asked for: its notice is open and whole, it lacks packets, or it is refused, and nothing changes
pub data Asked (ps : List Place) (s : List ℕ) (n : ℕ) (b w : List ℕ) : Asking → Type 0 where
  hands : its ps n < four_places → length (without ps n) ≡ 0 → length (whole ps n s) ≤ length b → Asked ps s n b w (handing (whole ps n s) (its ps n) (notice ps n) b w)
  lists : its ps n < four_places → (length (without ps n) ≡ 0 → ⊥) → length (without ps n) ≤ length w → Asked ps s n b w (listing (without ps n) b w)
  unanswered : (code : ℕ) → (code ≡ 0 → ⊥) → (code ≡ 9 → ⊥) → Asked ps s n b w (not_answered b w (bare code))

-- dropped: its place is free, or it is refused, and nothing changes
pub data Dropped (ps : List Place) (n : ℕ) : Dropping → Type 0 where
  frees : its ps n < four_places → Dropped ps n (record { reply = Done; change = turns (its ps n) (freed (notice ps n)) })
  undropped : (code : ℕ) → (code ≡ 0 → ⊥) → Dropped ps n (record { reply = Refused (bare code); change = stays })

-- a packet that its place does not contradict
pub agreeing : (s : List ℕ) (i : ℕ) (p : Place) (r : Packet) (c : List ℕ) → contradicts s i p r c ≡ false
    → (r.language ≡ p.language) × (r.total ≡ p.total) × ((lacks p r.own || alike (in_cell_of s i p r.own) c) ≡ true)
agreeing s i p r c e =
    let like = lacks p r.own || alike (in_cell_of s i p r.own) c in
    let (a, b) = (and-eq-true_iff (eqb r.language p.language) (eqb r.total p.total && like)).0 (not-false (eqb r.language p.language && (eqb r.total p.total && like)) e) in
    let (t, h) = (and-eq-true_iff (eqb r.total p.total) like).0 b in
    (eqb-true r.language p.language a, eqb-true r.total p.total t, h)

module _ (ps : List Place) (s : List ℕ) where
  module _ (m : List ℕ) (x : Packet × List ℕ) (reads : read_record packets record_of m ≡ accepted x) (tests : first_tests ps s ≡ 0) where
    abbrev r : Packet
    r = x.0

    abbrev c : List ℕ
    c = x.1

    joins_so : (i : ℕ) → i < four_places → (place_at ps i).«open» ≡ true → (place_at ps i).number ≡ r.number → Accepted ps s m (joins s i (place_at ps i) r c)
    unfolding joins
    joins_so i l o q = go (contradicts s i p r c) (lacks p r.own) refl refl
      where
        p : Place
        p = place_at ps i

        go : (u v : Bool) → contradicts s i p r c ≡ u → lacks p r.own ≡ v
            → Accepted ps s m (cond u (turned_away s (bare 7)) (cond v (taken s i (holding p r.own (length c)) r c) (record { reply = Again; change = stays; store = s })))
        go true v eu ev = away x reads 7 (λ e. omega (arith, e))
        go false true eu ev =
            let (language, total, _) = agreeing s i p r c eu in
            takes x reads tests _ (lacking i (record { low = l; is_open = o; number = q; language = sym language; total = sym total }) (eqb-true (held p r.own) 0 ev))
        go false false eu ev =
            let (language, total, h) = agreeing s i p r c eu in
            takes x reads tests _
            (holding_it i (record { low = l; is_open = o; number = q; language = sym language; total = sym total }) (eqb-false (held p r.own) 0 ev)
            (alike_same (in_cell_of s i p r.own) c (subst (λ v. (v || alike (in_cell_of s i p r.own) c) ≡ true) ev h)))

    received_so : Accepted ps s m (received (front ps) s r c)
    unfolding received
    received_so = rw (front_open ps r.number, front_free ps) (go (ltb i four_places) refl)
      where
        i : ℕ
        i = open_at ps r.number

        fresh : (u : Bool) → four_places ≤ i → ltb (free_at ps) four_places ≡ u → Accepted ps s m (cond u (taken s (free_at ps) (opened r (length c)) r c) (turned_away s (bare 8)))
        fresh true none e = let l = ltb-true (free_at ps) four_places e in takes x reads tests _ (new (free_at ps) (open_none ps r.number none) l (free_found ps l))
        fresh false none e = away x reads 8 (λ e. omega (arith, e))

        go : (u : Bool) → ltb i four_places ≡ u → Accepted ps s m (cond u (joins s i (place_at (front ps) i) r c) (opens s (free_at ps) r c))
        go true e = let l = ltb-true i four_places e in let (o, q) = open_found ps r.number l in rw (front_at ps i l) (joins_so i l o q)
        go false e = fresh (ltb (free_at ps) four_places) (ltb-false i four_places e) refl

  pub accepting_so : (m : List ℕ) → Accepted ps s m (accepting ps s m)
  unfolding accepting
  accepting_so m = go (read_record packets record_of m) refl
    where
      tested : (x : Packet × List ℕ) → read_record packets record_of m ≡ accepted x → (u : Bool) → eqb (first_tests ps s) 0 ≡ u → Accepted ps s m (cond u (received (front ps) s x.0 x.1) (turned_away s (bare (first_tests ps s))))
      tested x e true q = received_so m x e (eqb-true (first_tests ps s) 0 q)
      tested x e false q = away x e (first_tests ps s) (eqb-false (first_tests ps s) 0 q)

      go : (o : Out (Packet × List ℕ)) → read_record packets record_of m ≡ o → Accepted ps s m (answered (λ x. let code = first_tests ps s in cond (eqb code 0) (received (front ps) s x.0 x.1) (turned_away s (bare code))) (turned_away s) o)
      go (accepted x) e = tested x e (eqb (first_tests ps s) 0) refl
      go (refused n p) e = unread n p e (λ z. never_read family m p (e ∙ ap (λ n. refused n p) z))

  pub asking_so : (n : ℕ) (b w : List ℕ) → Asked ps s n b w (asking ps s n b w)
  unfolding asking answers
  asking_so n b w = go (eqb (first_tests ps s) 0) (ltb (its ps n) four_places) (eqb (length ns) 0) (leb (length c) (length b)) (leb (length ns) (length w)) refl refl refl refl refl
    where
      ns : List ℕ
      ns = without ps n

      c : List ℕ
      c = whole ps n s

      go : (t u v y z : Bool) → eqb (first_tests ps s) 0 ≡ t → ltb (its ps n) four_places ≡ u → eqb (length ns) 0 ≡ v → leb (length c) (length b) ≡ y → leb (length ns) (length w) ≡ z
          → Asked ps s n b w (cond t (cond u (cond v (cond y (handing c (its ps n) (notice ps n) b w) (not_answered b w (bare 6))) (cond z (listing ns b w) (not_answered b w (bare 6)))) (not_answered b w (bare 11))) (not_answered b w (bare (first_tests ps s))))
      go false u v y z et eu ev ey ez = unanswered (first_tests ps s) (eqb-false (first_tests ps s) 0 et) (tests_number ps s)
      go true false v y z et eu ev ey ez = unanswered 11 (λ e. omega (arith, e)) (λ e. omega (arith, e))
      go true true true true z et eu ev ey ez = hands (ltb-true (its ps n) four_places eu) (eqb-true (length ns) 0 ev) (leb-true (length c) (length b) ey)
      go true true true false z et eu ev ey ez = unanswered 6 (λ e. omega (arith, e)) (λ e. omega (arith, e))
      go true true false y true et eu ev ey ez = lists (ltb-true (its ps n) four_places eu) (eqb-false (length ns) 0 ev) (leb-true (length ns) (length w) ez)
      go true true false y false et eu ev ey ez = unanswered 6 (λ e. omega (arith, e)) (λ e. omega (arith, e))

  pub dropping_so : (n : ℕ) → Dropped ps n (dropping ps s n)
  unfolding dropping
  dropping_so n = go (eqb (first_tests ps s) 0) (ltb (its ps n) four_places) refl refl
    where
      go : (t u : Bool) → eqb (first_tests ps s) 0 ≡ t → ltb (its ps n) four_places ≡ u
          → Dropped ps n (cond t (cond u (record { reply = Done; change = turns (its ps n) (freed (notice ps n)) }) (record { reply = Refused (bare 11); change = stays })) (record { reply = Refused (bare (first_tests ps s)); change = stays }))
      go true true et eu = frees (ltb-true (its ps n) four_places eu)
      go true false et eu = undropped 11 (λ e. omega (arith, e))
      go false u et eu = undropped (first_tests ps s) (eqb-false (first_tests ps s) 0 et)

-- ---- and by its number

module _ {ps : List Place} {s m : List ℕ} where
  pub accepting_away : {o : Accepting} → Accepted ps s m o → ((refusal_of o.reply).code ≡ 0 → ⊥) → o ≡ turned_away s (refusal_of o.reply)
  accepting_away (takes y reads tests o z) h = absurd (h (ap (λ (r : Verdict). r.code) (takes_zero z)))
  accepting_away (unread c p e n) h = refl
  accepting_away (away x e code n) h = refl

  pub accepting_in : {o : Accepting} → Accepted ps s m o → (refusal_of o.reply).code ≡ 0 → (x : Packet × List ℕ) × (read_record packets record_of m ≡ accepted x) × (first_tests ps s ≡ 0) × Takes ps s x.0 x.1 o
  accepting_in (takes y reads tests o z) e = (y, reads, tests, z)
  accepting_in (unread c p e n) z = absurd (n z)
  accepting_in (away x e code n) z = absurd (n z)

  pub accepting_bit : {o : Accepting} → Accepted ps s m o → (refusal_of o.reply).bit ≡ (told (read_record packets record_of m)).bit
  accepting_bit (takes x e tests o z) = ap (λ (r : Verdict). r.bit) (takes_zero z) ∙ ap (λ o. (told o).bit) (sym e)
  accepting_bit (unread c p e n) = ap (λ o. (told o).bit) (sym e)
  accepting_bit (away x e code n) = ap (λ o. (told o).bit) (sym e)

module _ {ps : List Place} {s : List ℕ} {n : ℕ} {b w : List ℕ} where
  pub asking_away : {o : Asking} → Asked ps s n b w o → ((refusal_of o.reply).code ≡ 0 → ⊥) → ((refusal_of o.reply).code ≡ 9 → ⊥) → o ≡ not_answered b w (refusal_of o.reply)
  asking_away (hands l z r) h k = absurd (h refl)
  asking_away (lists l z r) h k = absurd (k refl)
  asking_away (unanswered code u v) h k = refl

  pub asking_lists : {o : Asking} → Asked ps s n b w o → (refusal_of o.reply).code ≡ 9 → o ≡ listing (without ps n) b w
  asking_lists (hands l z r) e = absurd (omega (arith, e))
  asking_lists (lists l z r) e = refl
  asking_lists (unanswered code u v) e = absurd (v e)

  pub asking_hands : {o : Asking} → Asked ps s n b w o → (refusal_of o.reply).code ≡ 0
      → (its ps n < four_places) × (length (without ps n) ≡ 0) × (length (whole ps n s) ≤ length b) × (o ≡ handing (whole ps n s) (its ps n) (notice ps n) b w)
  asking_hands (hands l z r) e = (l, z, r, refl)
  asking_hands (lists l z r) e = absurd (omega (arith, e))
  asking_hands (unanswered code u v) e = absurd (u e)

  pub asking_bit : {o : Asking} → Asked ps s n b w o → (refusal_of o.reply).bit ≡ 0
  asking_bit (hands l z r) = refl
  asking_bit (lists l z r) = refl
  asking_bit (unanswered code u v) = refl

module _ {ps : List Place} {n : ℕ} where
  pub dropping_away : {o : Dropping} → Dropped ps n o → ((refusal_of o.reply).code ≡ 0 → ⊥) → o ≡ record { reply = Refused (refusal_of o.reply); change = stays }
  dropping_away (frees l) h = absurd (h refl)
  dropping_away (undropped code u) h = refl

  pub dropping_frees : {o : Dropping} → Dropped ps n o → (refusal_of o.reply).code ≡ 0 → (its ps n < four_places) × (o ≡ record { reply = Done; change = turns (its ps n) (freed (notice ps n)) })
  dropping_frees (frees l) e = (l, refl)
  dropping_frees (undropped code u) e = absurd (u e)

  pub dropping_bit : {o : Dropping} → Dropped ps n o → (refusal_of o.reply).bit ≡ 0
  dropping_bit (frees l) = refl
  dropping_bit (undropped code u) = refl
