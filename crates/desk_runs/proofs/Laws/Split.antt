-- Splitter and desk together: when all packets that the splitter makes of a content have come since the place was opened, asking with room hands out that content, its length and its language, and the place is free. Each number's content is that part of the content, so in number order they are the content. Assumes nothing.
use Rattle.std.specs.Prelude.{◌≡◌, Bool, true, false, cond, ◌||◌, ◌⊎◌, eqb, length, drop}
use Rattle.std.proofs.Math.Path.{refl, sym, ap, ap₂}
use Rattle.std.proofs.Common.{◌∙◌, subst, inl, inr, take_all}
use mathlib.Core.List.Memᴰ
use mathlib.Core.List.{List, [], ◌∷◌, ◌++◌, Memᴰ}
use Prim.Native.Nat.{ℕ, zero, suc, ◌+◌, ◌*◌, ◌≤◌, ◌<◌}
use native.Mathlib.Omega.{arith}
use Rattle.std.proofs.Math.ListN.{take}
use Rattle.std.proofs.Math.Seq.{take-add}
use borrow.Author.Tests.{eq-eqb}
use Rattle.packet.specs.Packet.{part_bytes_of}
use Rattle.packet.specs.Splitter.{packet_count, part_of, packet_of}
use Rattle.format.specs.Refusals.{bare}
use Rattle.format.specs.Refusals.{Verdict}
use Rattle.places.specs.Desk.{refusal_of}
use Rattle.places.specs.Replies.{Joined}
use Rattle.places.specs.Laws.Front.{Unopened}
use Rattle.desk_bytes.specs.Promises.{count_of, language_of, AsksIn}
use Rattle.desk_runs.specs.Lent.{Lent, desk_in, EmptyIn, Run, calls_of}
use Rattle.desk_runs.specs.Runs.{Desk, Empty, Call, asks, number_of, run, log, Part, since, came, content_of, in_order_of, Given, asked, due}
use Rattle.desk_runs.specs.Sending.{AllCame, handed}
use Rattle.desk_runs.specs.Laws.BytesDemand.{empty_in}
use Rattle.desk_runs.proofs.Laws.BytesDemand.{asked_over_bytes}
use Rattle.desk_runs.proofs.Laws.Demand.{told, whole, complete_due, asked_is_due, one_notice}
use Rattle.desk_runs.proofs.Laws.Follows.{follows}
use Rattle.desk_runs.specs.Laws.Older.{freed_forgets}
use Rattle.desk_runs.specs.Laws.Parts.{Member}

-- one that has come is counted
member_came : (xs : List Part) (y : Part) → Memᴰ y xs → came xs y.0.own ≡ true
unfolding came
member_came [] y h = absurd (Memᴰ.not-nil h)
member_came (x ∷ xs) y h = go (Memᴰ.cases_cons h) (member_came xs y)
  where
    or_true : (b : Bool) → (b || true) ≡ true
    or_true true = refl
    or_true false = refl

    go : (y ≡ x) ⊎ Memᴰ y xs → (Memᴰ y xs → came xs y.0.own ≡ true) → (eqb x.0.own y.0.own || came xs y.0.own) ≡ true
    go (inl q) r = rw (eq-eqb x.0.own y.0.own (ap (λ (z : Part). z.0.own) (sym q))) refl
    go (inr k) r = rw (r k) (or_true (eqb x.0.own y.0.own))

-- Of a number of which none has come, no place is open.
pub none_open : (d : Desk) → Empty d → (cs : List Call) (n : ℕ) → since n (log d cs) ≡ [] → Unopened (run d cs).places n
none_open d empty cs n e i l o q =
    let some = ((told d empty cs).stands i l o).some in
    omega (arith, some, ap (λ n. length (since n (log d cs))) q, ap length e)

module _ (english : Bool) (number : ℕ) (c : List ℕ) where
  -- the parts in number order
  in_order : (xs : List Part) → ((k : ℕ) → k < packet_count (length c) → content_of xs k ≡ part_of c k) → (t : ℕ) → t ≤ packet_count (length c) → in_order_of t xs ≡ take (t * part_bytes_of) c
  unfolding in_order_of
  in_order xs h zero l = refl
  in_order xs h (suc t) l =
      let more : suc t * part_bytes_of ≡ t * part_bytes_of + part_bytes_of = omega arith in
      ap₂ ◌++◌ (in_order xs h t (omega arith)) (h t (omega arith)) ∙ sym (ap (λ n. take n c) more ∙ take-add (t * part_bytes_of) part_bytes_of c)

  module _ (some : 1 ≤ length c) where
    module _ (d : Desk) (empty : Empty d) (cs : List Call) (all : AllCame english number c (since number (log d cs))) (b w : List ℕ) (room : length c ≤ length b) where
      pub split_due : due (since number (log d cs)) b w ≡ handed english number c b w
      split_due = go (since number (log d cs)) refl all
        where
          go : (xs : List Part) → since number (log d cs) ≡ xs → AllCame english number c xs → due xs b w ≡ handed english number c b w
          go [] e all = absurd (Memᴰ.not-nil (all 0 (omega arith)))
          go (x ∷ xs) e all =
              let one : (k : ℕ) → k < packet_count (length c) → Member x.0.total x.0.language (packet_of english number c k) × (content_of (x ∷ xs) k ≡ part_of c k) = λ k l. one_notice d empty cs number x xs e b w (packet_of english number c k) (all k l) in
              let first = (one 0 (omega arith)).0 in
              let total = first.total in
              let is : whole x xs ≡ c =
              ap (λ t. in_order_of t (x ∷ xs)) (sym total) ∙ in_order (x ∷ xs) (λ k l. (one k l).1) (packet_count (length c)) (omega arith) ∙ take_all (packet_count (length c) * part_bytes_of) c (omega arith) in
              complete_due x xs b w (λ k l. member_came (x ∷ xs) (packet_of english number c k) (all k (omega (arith, l, total)))) (omega (arith, room, ap length is))
              ∙ (λ i. record { reply = Joined (length (is i)) (sym first.language i); notice = is i ++ drop (length (is i)) b; missing = w })

      -- Over places: the content is handed out,
      pub split_handed_out : asked number b w (run d cs) ≡ handed english number c b w
      split_handed_out = asked_is_due d empty cs number b w ∙ split_due

      -- and no place has its number any more.
      pub split_freed : (since number (log d (asks number b w ∷ cs)) ≡ []) × Unopened (run d (asks number b w ∷ cs)).places number
      split_freed =
          let e = freed_forgets d (asks number b w) cs number (eq-eqb number number refl) (ap (λ (g : Given). number_of g.reply) split_handed_out) in
          (e, none_open d empty (asks number b w ∷ cs) number e)

    -- Over lent bytes the same: the refusal, the buffer, the row, the count and the language; and the place is free.
    module _ (d : Lent) (empty : EmptyIn d) (h : List (Call × ℕ)) (e : Lent) (r : Run d h e) (all : AllCame english number c (since number h)) (b w : List ℕ) (room : length c ≤ length b) where
      pub split_over_bytes : (count language : ℕ) (code : Verdict) (bs t v : List ℕ) (count' language' : ℕ) → AsksIn e.places e.store number b w count language code bs t v count' language'
          → (code ≡ bare 0) × (t ≡ c ++ drop (length c) b) × (v ≡ w) × (count' ≡ length c) × (language' ≡ cond english 1 0) × (since number ((asks number b w, code.code) ∷ h) ≡ [])
      unfolding since
      split_over_bytes count language code bs t v count' language' answer =
          let f = follows d empty.wide h e r in
          let is : due (since number h) b w ≡ handed english number c b w =
          ap (λ h. due (since number h) b w) f.logged ∙ split_due (desk_in d) (empty_in empty) (calls_of h) (subst (λ h. AllCame english number c (since number h)) f.logged all) b w room in
          let (x, y, z, p, q) = asked_over_bytes d empty h e r number b w count language code bs t v count' language' answer in
          let code_is : code ≡ bare 0 = x ∙ ap (λ (g : Given). refusal_of g.reply) is in (
            code_is,
            y ∙ ap (λ (g : Given). g.notice) is,
            z ∙ ap (λ (g : Given). g.missing) is,
            p ∙ ap (λ (g : Given). count_of g.reply count) is,
            q ∙ ap (λ (g : Given). language_of g.reply language) is,
            rw (code_is, eq-eqb number number refl) refl,
          )
