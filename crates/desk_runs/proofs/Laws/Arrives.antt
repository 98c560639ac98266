-- From the splitter through the desk and out again: where no other call is about that number, and fewer than four notices are open when its first packet comes, every packet of a content is taken in, in any order and however often; so when each has been sent, asking with room hands out the content. By induction over the calls: each packet agrees with those before it. Assumes nothing.
use Rattle.std.specs.Prelude.{◌≡◌, Bool, true, false, cond, ◌⊎◌, eqb, length, drop}
use Rattle.std.proofs.Math.Path.{refl, ap}
use Rattle.std.proofs.Common.{sym, ◌∙◌, subst, inl, inr, eqb-true, eq-eqb}
use mathlib.Core.List.Memᴰ
use mathlib.Core.List.{List, [], ◌∷◌, ◌++◌, Memᴰ}
use Prim.Native.Nat.{ℕ, ◌≤◌, ◌<◌}
use Rattle.format.specs.Fmt.{Out, accepted, refused}
use Rattle.format.specs.Promises.{read_record}
use Rattle.format.specs.Refusals.{bare}
use Rattle.format.specs.Refusals.{Verdict}
use Rattle.packet.specs.Packet.{packets, record_of}
use Rattle.packet.specs.Splitter.{packet_of}
use Rattle.places.specs.Places.{four_places}
use Rattle.desk_bytes.specs.Promises.{AsksIn}
use Rattle.desk_runs.specs.Lent.{Lent, desk_in, EmptyIn, Run, accepts, answers, gives_up, calls_of}
use Rattle.desk_runs.specs.Runs.{Desk, Empty, Call, comes, asks, drops, reply_to, number_of, run, log, Part, brings, grown, since, asked}
use Rattle.desk_runs.specs.Taking.{open_notices}
use Rattle.desk_runs.specs.Sending.{brought, Ours, AllCame, Sent, Fair, handed}
use Rattle.desk_runs.proofs.Laws.Split.{split_handed_out, split_over_bytes}
use Rattle.desk_runs.specs.Laws.BytesDemand.{empty_in}
use Rattle.desk_runs.proofs.Laws.Follows.{follows}
use Rattle.desk_runs.proofs.Laws.Takes.{joins_its_notice, opens_its_notice}

brings_it : (n : ℕ) (m : List ℕ) (x : Part) → read_record packets record_of m ≡ accepted x → x.0.number ≡ n → brings n (comes m) ≡ x ∷ []
brings_it n m x e q = rw (e, eq-eqb x.0.number n q) refl

brought_there : (n : ℕ) (cs : List Call) (m : List ℕ) (y : Part) → Memᴰ (comes m) cs → read_record packets record_of m ≡ accepted y → y.0.number ≡ n → Memᴰ y (brought n cs)
unfolding brought
brought_there n [] m y h e q = absurd (Memᴰ.not-nil h)
brought_there n (c ∷ cs) m y h e q = go (Memᴰ.cases_cons h) (λ k. brought_there n cs m y k e q)
  where
    go : (comes m ≡ c) ⊎ Memᴰ (comes m) cs → (Memᴰ (comes m) cs → Memᴰ y (brought n cs)) → Memᴰ y (brings n c ++ brought n cs)
    go (inl k) r = Memᴰ.append_left (brought n cs) (subst (Memᴰ y) (sym (brings_it n m y e q) ∙ ap (brings n) k) (Memᴰ.head refl))
    go (inr k) r = Memᴰ.append_right (brings n c) (r k)

either : (u : Bool) (xs : List Part) → cond u xs xs ≡ xs
either true xs = refl
either false xs = refl

module _ (english : Bool) (number : ℕ) (c : List ℕ) where
  -- two of the content's packets with one own number are one
  same_ours : (x y : Part) → Ours english number c x → Ours english number c y → x.0.own ≡ y.0.own → x.1 ≡ y.1
  same_ours x y a b q =
      let own : a.own ≡ b.own = ap (λ (z : Part). z.0.own) (sym a.is) ∙ q ∙ ap (λ (z : Part). z.0.own) b.is in
      ap (λ (z : Part). z.1) (a.is ∙ ap (packet_of english number c) own ∙ sym b.is)

  -- fair calls bring the content's packets alone
  all_ours : (cs : List Call) → ((x : Call) → Memᴰ x cs → Fair english number c x) → (y : Part) → Memᴰ y (brought number cs) → Ours english number c y
  unfolding brought
  all_ours [] fair y h = absurd (Memᴰ.not-nil h)
  all_ours (x ∷ cs) fair y h = go (Memᴰ.append_cases (brings number x) h) (all_ours cs (λ z k. fair z (Memᴰ.tail k)) y)
    where
      go : Memᴰ y (brings number x) ⊎ Memᴰ y (brought number cs) → (Memᴰ y (brought number cs) → Ours english number c y) → Ours english number c y
      go (inl k) r = (fair x (Memᴰ.head refl)).ours y k
      go (inr k) r = r k

  all_came : {cs : List Call} {xs : List Part} → xs ≡ brought number cs → Sent english number c cs → AllCame english number c xs
  all_came {cs} e sent k l = let (m, there, reads) = sent k l in subst (Memᴰ (packet_of english number c k)) (sym e) (brought_there number cs m (packet_of english number c k) there reads refl)

  module _ (d : Desk) (empty : Empty d) where
    -- one call more, where some of the content's packets have come and no other
    one_more : (cs : List Call) (y : Part) (ys : List Part) → since number (log d cs) ≡ y ∷ ys → ((z : Part) → Memᴰ z (y ∷ ys) → Ours english number c z) → (x : Call) → Fair english number c x
        → since number (log d (x ∷ cs)) ≡ brings number x ++ since number (log d cs)
    unfolding since log
    one_more cs y ys have ours (asks n b w) f = rw f.leaves (either (eqb (number_of (reply_to (asks n b w) (run d cs))) 0) (since number (log d cs)))
    one_more cs y ys have ours (drops n) f = rw f.leaves (either (eqb (number_of (reply_to (drops n) (run d cs))) 0) (since number (log d cs)))
    one_more cs y ys have ours (comes m) f = go (read_record packets record_of m) refl
      where
        code : ℕ
        code = number_of (reply_to (comes m) (run d cs))

        xs : List Part
        xs = since number (log d cs)

        taken : (x : Part) → read_record packets record_of m ≡ accepted x → (u : Bool) → eqb x.0.number number ≡ u → cond (eqb code 0) (cond u (x ∷ []) [] ++ xs) xs ≡ cond u (x ∷ []) [] ++ xs
        taken x e false q = either (eqb code 0) xs
        taken x e true q =
            let mine = f.ours x (subst (Memᴰ x) (sym (brings_it number m x e (eqb-true x.0.number number q))) (Memᴰ.head refl)) in
            let first = ours y (Memᴰ.head refl) in
            let zero : code ≡ 0 =
            ap (λ (r : Verdict). r.code)
            (joins_its_notice d empty cs m x e y ys (ap (λ n. since n (log d cs)) (eqb-true x.0.number number q) ∙ have) (ap (λ (z : Part). z.0.language) mine.is ∙ sym (ap (λ (z : Part). z.0.language) first.is))
            (ap (λ (z : Part). z.0.total) mine.is ∙ sym (ap (λ (z : Part). z.0.total) first.is)) (λ z k. same_ours z x (ours z k) mine)) in
            rw zero refl

        go : (o : Out Part) → read_record packets record_of m ≡ o → grown number (comes m, code) xs ≡ brings number (comes m) ++ xs
        go (accepted x) e = rw e (taken x e (eqb x.0.number number) refl)
        go (refused n p) e = rw e (either (eqb code 0) xs)

    -- the first packet m of the notice comes, of which none has come, where fewer than four notices are open
    module _ (old : List Call) (m : List ℕ) (x : Part) (none : since number (log d old) ≡ []) (few : open_notices (log d old) < four_places) (reads : read_record packets record_of m ≡ accepted x) (at : x.0.number ≡ number) where
      -- Every packet that the calls bring is taken in.
      pub all_taken_in : (later : List Call) → ((y : Call) → Memᴰ y (later ++ (comes m ∷ [])) → Fair english number c y) → since number (log d (later ++ (comes m ∷ old))) ≡ brought number (later ++ (comes m ∷ []))
      unfolding since log brought
      all_taken_in [] fair = rw (opens_its_notice d empty old m x reads (ap (λ n. since n (log d old)) at ∙ none) few, none) refl
      all_taken_in (y ∷ later) fair = go (brought number calls) refl (all_taken_in later (λ z k. fair z (Memᴰ.tail k)))
        where
          calls : List Call
          calls = later ++ (comes m ∷ [])

          go : (xs : List Part) → brought number calls ≡ xs → since number (log d (later ++ (comes m ∷ old))) ≡ brought number calls → since number (log d (y ∷ later ++ (comes m ∷ old))) ≡ brings number y ++ brought number calls
          go [] e r = absurd (Memᴰ.not-nil (subst (Memᴰ x) e (brought_there number calls m x (Memᴰ.append_right later (Memᴰ.head refl)) reads at)))
          go (z ∷ zs) e r =
              one_more (later ++ (comes m ∷ old)) z zs (r ∙ e) (λ w k. all_ours calls (λ c h. fair c (Memᴰ.tail h)) w (subst (Memᴰ w) (sym e) k)) y (fair y (Memᴰ.head refl))
              ∙ ap (brings number y ++◌) r

      -- So when each packet of the content has been sent, asking with room hands it out.
      pub arrives : 1 ≤ length c → (later : List Call) → ((y : Call) → Memᴰ y (later ++ (comes m ∷ [])) → Fair english number c y) → Sent english number c (later ++ (comes m ∷ [])) → (b w : List ℕ) → length c ≤ length b
          → asked number b w (run d (later ++ (comes m ∷ old))) ≡ handed english number c b w
      arrives some later fair sent = split_handed_out english number c some d empty (later ++ (comes m ∷ old)) (all_came (all_taken_in later fair) sent)

-- ---- over lent bytes

-- a run has an earlier part
earlier : {d e : Lent} (x : Call × ℕ) (h : List (Call × ℕ)) → Run d (x ∷ h) e → (e' : Lent) × Run d h e'
earlier x h (accepts g e r m again code bs t again' a) = (e, r)
earlier x h (answers g e r n b w count language code bs c v count' language' a) = (e, r)
earlier x h (gives_up g e r n code bs a) = (e, r)

before : {d e : Lent} (new h : List (Call × ℕ)) → Run d (new ++ h) e → (e' : Lent) × Run d h e'
before {d} {e} [] h r = (e, r)
before {d = d} {e = e} (x ∷ new) h r = before {d = d} {e = (earlier x (new ++ h) r).0} new h (earlier x (new ++ h) r).1

calls_append : (new old : List (Call × ℕ)) → calls_of (new ++ old) ≡ calls_of new ++ calls_of old
unfolding calls_of
calls_append [] old = refl
calls_append (x ∷ new) old = ap (x.0 ∷◌) (calls_append new old)

module _ (english : Bool) (number : ℕ) (c : List ℕ) (d : Lent) (empty : EmptyIn d) (new old : List (Call × ℕ)) (m : List ℕ) (code₀ : ℕ) (e : Lent) (r : Run d (new ++ ((comes m, code₀) ∷ old)) e) (x : Part)
    (none : since number old ≡ []) (few : open_notices old < four_places) (reads : read_record packets record_of m ≡ accepted x) (at : x.0.number ≡ number) (fair : (y : Call) → Memᴰ y (calls_of new ++ (comes m ∷ [])) → Fair english number c y) where
  -- Every packet that the calls bring is taken in,
  pub taken_over_bytes : since number (new ++ ((comes m, code₀) ∷ old)) ≡ brought number (calls_of new ++ (comes m ∷ []))
  unfolding calls_of
  taken_over_bytes =
      let f = follows d empty.wide _ e r in
      let (e₀, r₀) = before ((comes m, code₀) ∷ []) old (before new ((comes m, code₀) ∷ old) r).1 in
      let o : old ≡ log (desk_in d) (calls_of old) = (follows d empty.wide old e₀ r₀).logged in
      ap (since number) (f.logged ∙ ap (log (desk_in d)) (calls_append new ((comes m, code₀) ∷ old)))
      ∙ all_taken_in english number c (desk_in d) (empty_in empty) (calls_of old) m x (ap (since number) (sym o) ∙ none) (subst (λ h. open_notices h < four_places) o few) reads at (calls_of new) fair

  -- and when each packet of the content has been sent, asking with room hands it out.
  pub arrives_over_bytes : 1 ≤ length c → Sent english number c (calls_of new ++ (comes m ∷ [])) → (b w : List ℕ) → length c ≤ length b
      → (count language : ℕ) (code : Verdict) (bs t v : List ℕ) (count' language' : ℕ) → AsksIn e.places e.store number b w count language code bs t v count' language'
      → (code ≡ bare 0) × (t ≡ c ++ drop (length c) b) × (v ≡ w) × (count' ≡ length c) × (language' ≡ cond english 1 0)
      × (since number ((asks number b w, code.code) ∷ (new ++ ((comes m, code₀) ∷ old))) ≡ [])
  arrives_over_bytes some sent = split_over_bytes english number c some d empty (new ++ ((comes m, code₀) ∷ old)) e r (all_came english number c taken_over_bytes sent)
