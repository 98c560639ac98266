-- Walks as values: a stretch of a walk over part of a layout, whatever follows. Stretches are joined, so that a loop over counted groups has one for its invariant. Assumes nothing.
use Rattle.std.specs.Prelude.{◌≡◌, ℕ, ◌+◌, ◌^◌, ◌<◌, ◌≤◌, Bool, true, false, List, [], ◌∷◌, ◌++◌, ◌≢◌, refl}
use Rattle.std.proofs.Common.{sym, ◌∙◌, subst, append_assoc, append-nil, ne_eqb}
use Rattle.std.proofs.Math.Path.{ap}
use Rattle.std.proofs.Math.Nat.{mod-eq_of_lt}
use Rattle.std.proofs.Math.Seq.{append_snoc}
use Rattle.format.specs.Fmt.{Out, accepted, refused, Fmt, also, read, spot}
use Rattle.bits.specs.Answers.{got}
use Rattle.format.specs.Words.{◌‥◌, num, deciding}
use Rattle.walk.specs.Reading.{ranged}
use Rattle.walk.specs.Walk.{onward}
use Rattle.walk.specs.Laws.Reading.{step_num, step_decide}
use Rattle.walk.specs.Laws.Step.{sticky, Reading}
use Rattle.walk.specs.Walk.{Walk}

-- Reading stands at f where r says, after the values us, unless r was refused.
pub record Going (o : Out (List ℕ)) (all : Fmt) (i : ℕ) (s : List ℕ) (f : Fmt) (us : List ℕ) (r : Walk) : Type 0 where
  pub past : List ℕ
  pub so : Reading o all i s f past r.at (us ++◌) r

-- Where reading stands at g, it stands at g' afterwards, with the values vs more, whatever layout f follows.
pub record Along (s : List ℕ) (g g' : Fmt → Fmt) (r : Walk) (vs : List ℕ) (r' : Walk) : Type 0 where
  pub on : {o : Out (List ℕ)} {all : Fmt} {i : ℕ} {f : Fmt} {us : List ℕ} → Going o all i s (g f) us r → Going o all i s (g' f) (us ++ vs) r'

-- ---- the values before, told in another way

also_same : {k k' : List ℕ → List ℕ} → ((x : List ℕ) → k x ≡ k' x) → (o : Out (List ℕ)) → also k o ≡ also k' o
also_same e (accepted x) = ap accepted (e x)
also_same e (refused c p) = refl

pub fronted : {o : Out (List ℕ)} {all : Fmt} {i : ℕ} {s : List ℕ} {f : Fmt} {h : List ℕ} {at : ℕ} {k k' : List ℕ → List ℕ} {r : Walk} → ((x : List ℕ) → k x ≡ k' x)
    → Reading o all i s f h at k r → Reading o all i s f h at k' r
fronted {all = all} {i} {s} {f} {h} {at} {r = r} e x = record {
  so = x.so ∙ ap (sticky r) (also_same e (read f h at _));
  here = x.here;
  spots = λ z vs. ap (λ l. spot all [] l i) (sym (e vs)) ∙ x.spots z vs;
  slim = x.slim;
  within = x.within;
}

placed : {o : Out (List ℕ)} {all : Fmt} {i : ℕ} {s : List ℕ} {f : Fmt} {h : List ℕ} {at : ℕ} {k : List ℕ → List ℕ} {r : Walk} → Reading o all i s f h at k r → Reading o all i s f h r.at k r
placed {o} {all} {i} {s} {f} {h} {k = k} {r} x = subst (λ a. Reading o all i s f h a k r) (sym x.here) x

-- where reading stands after the values us
pub going : {o : Out (List ℕ)} {all : Fmt} {i : ℕ} {s : List ℕ} {f : Fmt} {h : List ℕ} {at : ℕ} {r : Walk} (us : List ℕ) → Reading o all i s f h at (us ++◌) r → Going o all i s f us r
going {h = h} us x = record { past = h; so = placed x }

-- ---- one field

-- A step of reading is a step of what goes on, whatever the values before it.
pub go : {o : Out (List ℕ)} {all : Fmt} {i : ℕ} {s : List ℕ} {f f' : Fmt} {r g : Walk} {at' : ℕ} (us : List ℕ) (u : ℕ) → Going o all i s f us r
    → ((h : List ℕ) → Reading o all i s f h r.at (us ++◌) r → Reading o all i s f' (u ∷ h) at' (λ vs. us ++ (u ∷ vs)) g) → Going o all i s f' (us ++ u ∷ []) g
go us u x next = record { past = u ∷ x.past; so = placed (fronted (λ vs. sym (append_snoc us u vs)) (next x.past x.so)) }

-- after a refusal it does not matter what follows, nor the values
pub go_refused : {o : Out (List ℕ)} {all : Fmt} {i : ℕ} {s : List ℕ} {us : List ℕ} {r : Walk} {f : Fmt} (g : Fmt) (vs : List ℕ) → (r.code ≢ 0) → Going o all i s f us r → Going o all i s g vs r
go_refused {r = r} g vs n x = record {
  past = x.past;
  so = record {
    so = x.so.so ∙ rw (ne_eqb r.code 0 n) refl;
    here = refl;
    spots = λ z. absurd (n z);
    slim = x.so.slim;
    within = λ z. absurd (n z);
  };
}

-- ---- stretches are joined

regroup : {o : Out (List ℕ)} {all : Fmt} {i : ℕ} {s : List ℕ} {f : Fmt} {r : Walk} (us vs ws : List ℕ) → Going o all i s f ((us ++ vs) ++ ws) r → Going o all i s f (us ++ (vs ++ ws)) r
regroup {o} {all} {i} {s} {f} {r} us vs ws x = subst (λ l. Going o all i s f l r) (append_assoc us vs ws) x

pub stay : {s : List ℕ} {g : Fmt → Fmt} {r : Walk} → Along s g g r [] r
stay {s} {g} {r} = record { on = λ {o} {all} {i} {f} {us} x. subst (λ l. Going o all i s (g f) l r) (sym (append-nil us)) x }

module _ {s : List ℕ} {g g' : Fmt → Fmt} {r : Walk} {vs : List ℕ} {r' : Walk} where
  pub then : {g'' : Fmt → Fmt} {ws : List ℕ} {r'' : Walk} → Along s g g' r vs r' → Along s g' g'' r' ws r'' → Along s g g'' r (vs ++ ws) r''
  then {ws = ws} a c = record { on = λ {o} {all} {i} {f} {us} x. regroup us vs ws (c.on (a.on x)) }

  pub under : (k : Fmt → Fmt) → Along s g g' r vs r' → Along s (λ f. g (k f)) (λ f. g' (k f)) r vs r'
  under k a = record { on = λ x. a.on x }

  pub dropped : (g'' : Fmt → Fmt) (ws : List ℕ) → (r'.code ≢ 0) → Along s g g' r vs r' → Along s g g'' r ws r'
  dropped g'' ws n a = record { on = λ {o} {all} {i} {f} {us} x. go_refused (g'' f) (us ++ ws) n (a.on x) }

-- ---- one number

module _ {s : List ℕ} {r q : Walk} (w : ℕ) (some : 0 < w) (small : w ≤ 32) (reach : r.at + w < 2 ^ 64) (lo hi : ℕ) where
  pub along_num : q ≡ ranged s w true lo hi 4 r → Along s (num w (lo ‥ hi)) (λ f. f) r (q.v ∷ []) q
  along_num d = record { on = λ {o} {all} {i} {f} {us} x. go us q.v x (λ h e. step_num w some small reach lo hi e d) }

  -- that decides what follows
  pub along_decide : (g : ℕ → Fmt → Fmt) → q ≡ ranged s w false lo hi 4 r → Along s (λ f. deciding w (lo ‥ hi) λ n. g n f) (g q.v) r (q.v ∷ []) q
  along_decide g d = record { on = λ {o} {all} {i} {f} {us} x. go us q.v x (λ h e. step_decide w some small reach 3 lo hi (lo ‥ hi) (λ v. refl) e d) }

-- what a number's walk is: its value and its offset
module _ (s : List ℕ) (r : Walk) {q : Walk} (w : ℕ) (b : Bool) (lo hi c : ℕ) (d : q ≡ ranged s w b lo hi c r) where
  pub ranged_v : q.v ≡ got s r.at w
  unfolding onward
  ranged_v = ap (λ (q : Walk). q.v) d

  pub ranged_at : r.at + w < 2 ^ 64 → q.at ≡ r.at + w
  unfolding onward
  ranged_at reach = ap (λ (q : Walk). q.at) d ∙ mod-eq_of_lt reach
