-- A front of a run for each step, what had landed by then, and how its moment stands to those of samples.
use Rattle.sl_run_law.proofs.Front.RunsFromFronts.{fronts_are_lawful, last_event, one_step, run_after, run_keeps, run_rest}
use Rattle.sl_run_law.specs.Front.LawfulFronts.{HasOneStep}
use Rattle.sl_run_law.proofs.Landing.OneArrival.{Lands, first_lands}
use Rattle.sl_run_law.proofs.Landing.OneEvent.{step_landings}
use Rattle.sl_run_law.proofs.Moment.MomentsFollowSteps.{follows, keeps, kept_before, kept_past}
use Rattle.sl_run_law.proofs.Moment.LandsNow.{event_lands}
use Rattle.sl_run_law.proofs.Moment.LaterThanFront.{fronts_go}
use Rattle.sl_run_law.specs.Moment.MomentsFollowSteps.{IsKept}
use Rattle.sl_words.proofs.Lists.{contains_cases, contains_none}
use Rattle.sl_run.specs.EventChanges.{first_change, happens, next_step}
use Rattle.sl_run.specs.Inputs.{input_of, machine_of}
use Rattle.sl_run.specs.Runs.{Happening, world_after}
use Rattle.sl_run.specs.Safety.{LawfulRun, world_at}
use Rattle.sl_run.specs.Worlds.{Landing, Program, World, world_with}
use Rattle.sl_run.specs.declared.header.Header.{Header}
use Rattle.sl_run_law.proofs.WorldsGoOn.{run_goes}
use Rattle.std.proofs.Common.{ap, arith, inl, inr, refl, subst, sym, ◌∙◌}
use Rattle.std.proofs.lemmas.Bool.{cases_lt}
use Rattle.std.proofs.lemmas.List.{append-nil}
use Rattle.std.specs.Prelude.{Contains, List, [], length, ℕ, ◌++◌, ◌+◌, ◌<◌, ◌∷◌, ◌≡◌, ◌≤◌, ◌⊎◌}

-- ---- a front for each step

-- The first front of these that has come to step n.
pub record FrontAt (p : Program) (h : Header) (xs : List Happening) (n : ℕ) : Type 0 where
  pub now : List Happening
  pub rest : List Happening
  pub whole : xs ≡ now ++ rest
  pub reaches : n ≤ (world_at p h now).step
  pub first : (world_at p h now).step ≤ n + 1

two_steps : (w n k : ℕ) → n ≡ w + ((1 + k) + 0) → k ≡ 1 → n ≡ w + 2
two_steps w n k is one = omega (arith, is, one)

-- An event takes two steps: its own, and one of a daemon or of the machine.
pub step_next : (p : Program) (h : Header) (now : List Happening) (x : Happening) → LawfulRun p h (now ++ x ∷ []) → (world_at p h (now ++ x ∷ [])).step ≡ (world_at p h now).step + 2
step_next p h now x run =
    let w : World = world_at p h now in
    let last = run_rest (world_with p h) now (x ∷ []) run.is_run in
    let one : HasOneStep w x.0 x.1 = one_step w x.0 x.1 last.1 in
    ap (λ (v : World). v.step) (run_after (world_with p h) now (x ∷ []))
    ∙ two_steps w.step (world_after w (x ∷ [])).step (length x.1) (run_goes w (x ∷ [])).step (ap (λ fxs. length fxs) one.one)

append_more : (now rest : List Happening) (x : Happening) → (now ++ rest) ++ x ∷ [] ≡ now ++ (rest ++ x ∷ [])
append_more [] rest x = refl
append_more (y ∷ now) rest x = ap (λ xs. y ∷ xs) (append_more now rest x)

abbrev EachStep : Program → Header → List Happening → Type 0
EachStep p h xs = (n : ℕ) → n ≤ (world_at p h xs).step → FrontAt p h xs n

least_step : (n : ℕ) → n ≤ 1 → 1 ≤ n + 1
least_step n le = omega arith

step_first : (p : Program) (h : Header) → EachStep p h []
step_first p h n le = record { now = []; rest = []; whole = refl; reaches = le; first = least_step n le }

more : (p : Program) (h : Header) (now : List Happening) (x : Happening) (n : ℕ) → FrontAt p h now n → FrontAt p h (now ++ x ∷ []) n
more p h now x n f =
    record {
      now = f.now;
      rest = f.rest ++ x ∷ [];
      whole = ap (λ ys. ys ++ x ∷ []) f.whole ∙ append_more f.now f.rest x;
      reaches = f.reaches;
      first = f.first;
    }

step_more : (p : Program) (h : Header) (now : List Happening) (x : Happening) → LawfulRun p h (now ++ x ∷ []) → EachStep p h now → EachStep p h (now ++ x ∷ [])
step_more p h now x run each n le = by (cases_lt (world_at p h now).step n) where
  by : ((world_at p h now).step < n) ⊎ (n ≤ (world_at p h now).step) → FrontAt p h (now ++ x ∷ []) n
  by (inl above) =
      let next = step_next p h now x run in
      record { now = now ++ x ∷ []; rest = []; whole = sym (append-nil (now ++ x ∷ [])); reaches = le; first = omega (arith, next, above) }
  by (inr old) = more p h now x n (each n old)

pub front_at : (p : Program) (h : Header) (xs : List Happening) → LawfulRun p h xs → (n : ℕ) → n ≤ (world_at p h xs).step → FrontAt p h xs n
front_at p h xs run = run_keeps p h (EachStep p h) (record { first = step_first p h; next = step_more p h }) xs run

-- ---- what lands later

abbrev pub LandedSince : World → World → Type 0
LandedSince u v = (l : Landing) → Contains v.landings l → Contains u.landings l ⊎ (u.step ≤ l.step)

since_event : (u v w : World) → u.step ≤ v.step → LandedSince u v → ((l : Landing) → Contains w.landings l → Contains v.landings l ⊎ (v.step ≤ l.step)) → LandedSince u w
since_event u v w le old new l there =
    elim (new l there) as (λ z. Contains u.landings l ⊎ (u.step ≤ l.step)) [ inl was ↦ old l was | inr later ↦ inr (omega (arith, le, later)) ]

at_event : (v : World) (x : Happening) (l : Landing) → Contains (happens v x.0 x.1).landings l → Contains v.landings l ⊎ (v.step ≤ l.step)
at_event v x l there =
    elim (event_lands v x.0 x.1 l there) as (λ z. Contains v.landings l ⊎ (v.step ≤ l.step)) [ inl was ↦ inl was | inr new ↦ inr new.0 ]

since_on : (u v : World) (xs : List Happening) → u.step ≤ v.step → LandedSince u v → LandedSince u (world_after v xs)
since_on u v [] le old = old
since_on u v (x ∷ xs) le old =
    let w : World = happens v x.0 x.1 in
    let step = (run_goes v (x ∷ [])).step in
    since_on u w xs (omega (arith, le, step)) (since_event u v w le old (at_event v x))

-- What landed later than a front came at a later step.
pub landed_since : (p : Program) (h : Header) (now rest : List Happening) → LandedSince (world_at p h now) (world_at p h (now ++ rest))
landed_since p h now rest =
    subst (λ v. LandedSince (world_at p h now) v) (sym (run_after (world_with p h) now rest))
    (since_on (world_at p h now) (world_at p h now) rest (omega arith) (λ l there. inl there))

-- ---- what is of now

-- What has landed did so in the first step of an event, and each event takes two.
abbrev LandedBefore : Program → Header → List Happening → Type 0
LandedBefore p h xs = (l : Landing) → Contains (world_at p h xs).landings l → l.step + 2 ≤ (world_at p h xs).step

lands_at : (w v : World) (l : Landing) → Lands w v → Contains v.landings l → Contains w.landings l ⊎ (l.step ≡ w.step)
lands_at w v l (inl same) there = inl (subst (λ ls. Contains ls l) same there)
lands_at w v l (inr a) there =
    elim (contains_cases a.landing w.landings l (subst (λ ls. Contains ls l) a.same there)) as (λ z. Contains w.landings l ⊎ (l.step ≡ w.step)) [
      | inl here ↦ inr (ap (λ (x : Landing). x.step) (sym here) ∙ a.now.0)
      | inr old ↦ inl old
    ]

before_more : (p : Program) (h : Header) (now : List Happening) (x : Happening) → LawfulRun p h (now ++ x ∷ []) → LandedBefore p h now → LandedBefore p h (now ++ x ∷ [])
before_more p h now x run old l there =
    let w : World = world_at p h now in
    let last = last_event p h now x run in
    let next = step_next p h now x run in
    let first : Contains (first_change x.0 w).landings l =
    subst (λ ls. Contains ls l) (ap (λ (v : World). v.landings) last.after ∙ step_landings (machine_of x.0) (input_of w x.0) last.effects (next_step (first_change x.0 w))) there in
    elim (lands_at w (first_change x.0 w) l (first_lands x.0 w last.may) first) as (λ z. l.step + 2 ≤ (world_at p h (now ++ x ∷ [])).step) [
      | inl was ↦ let le = old l was in omega (arith, le, next)
      | inr is ↦ omega (arith, is, next)
    ]

pub landed_before : (p : Program) (h : Header) (xs : List Happening) → LawfulRun p h xs → (l : Landing) → Contains (world_at p h xs).landings l → l.step + 2 ≤ (world_at p h xs).step
landed_before p h xs run = run_keeps p h (LandedBefore p h) (record { first = λ l there. absurd (contains_none l there); next = before_more p h }) xs run

-- What came at the last step of a run is of now.
abbrev IsOfNow : Program → Header → List Happening → Type 0
IsOfNow p h xs = (s m : ℕ) → IsKept (world_at p h xs) s m → (world_at p h xs).step ≤ s + 1 → (world_at p h xs).moment ≤ m

now_more : (p : Program) (h : Header) (now : List Happening) (x : Happening) → LawfulRun p h (now ++ x ∷ []) → IsOfNow p h now → IsOfNow p h (now ++ x ∷ [])
now_more p h now x run old s m is le =
    let w : World = world_at p h now in
    let v : World = happens w x.0 x.1 in
    let k = keeps p h now (fronts_are_lawful p h now (x ∷ []) run) in
    let may = (last_event p h now x run).may in
    let next = step_next p h now x run in
    let after : world_at p h (now ++ x ∷ []) ≡ v = run_after (world_with p h) now (x ∷ []) in
    elim (kept_before w.header.timing.rho w v s m (follows w x.0 x.1 k.counted may) (subst (λ u. IsKept u s m) after is)) as (λ z. (world_at p h (now ++ x ∷ [])).moment ≤ m) [
      | inl was ↦ let past = k.past s m was in absurd (omega (arith, past.0, next, le))
      | inr new ↦ let same : (world_at p h (now ++ x ∷ [])).moment ≡ v.moment = ap (λ (u : World). u.moment) after in omega (arith, same, new.2)
    ]

of_now : (p : Program) (h : Header) (xs : List Happening) → LawfulRun p h xs → IsOfNow p h xs
of_now p h xs run = run_keeps p h (IsOfNow p h) (record { first = λ s m is le. omega arith; next = now_more p h }) xs run

-- What comes at the step of a front, or at the last step before it, isn't earlier than the front.
pub front_is_before : (p : Program) (h : Header) (now rest : List Happening) → LawfulRun p h (now ++ rest) → (s m : ℕ) → IsKept (world_at p h (now ++ rest)) s m
    → (world_at p h now).step ≤ s + 1 → (world_at p h now).moment ≤ m
front_is_before p h now rest run s m is le =
    elim ((fronts_go p h now rest run).kept s m is) as (λ z. (world_at p h now).moment ≤ m) [
      | inl was ↦ of_now p h now (fronts_are_lawful p h now rest run) s m was le
      | inr later ↦ later.1
    ]

-- What comes at a step before a front isn't later than the front.
pub front_is_after : (p : Program) (h : Header) (now rest : List Happening) → LawfulRun p h (now ++ rest) → (s m : ℕ) → IsKept (world_at p h (now ++ rest)) s m
    → s < (world_at p h now).step → m ≤ (world_at p h now).moment
front_is_after p h now rest run s m is lt =
    elim ((fronts_go p h now rest run).kept s m is) as (λ z. m ≤ (world_at p h now).moment) [
      | inl was ↦ (kept_past p h now (fronts_are_lawful p h now rest run) s m was).1
      | inr later ↦ absurd (omega (arith, later.0, lt))
    ]
