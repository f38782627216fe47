-- The front of a run at a step: all events that end by it. Of two fronts of a run the one of the lesser step is the front of the other.
use Rattle.sl_run_law.proofs.Front.RunsFromFronts.{one_step, run_after}
use Rattle.sl_run_law.specs.Front.LawfulFronts.{HasOneStep}
use Rattle.sl_safety.specs.Resources.Histories.{world_by}
use Rattle.sl_run.specs.EventChanges.{happens}
use Rattle.sl_run.specs.Runs.{Happening, HasSteps, IsRun, world_after}
use Rattle.sl_run.specs.Safety.{LawfulRun, world_at}
use Rattle.sl_run.specs.Worlds.{Program, World, world_with}
use Rattle.sl_run.specs.declared.header.Header.{Header}
use Rattle.sl_run_law.proofs.WorldsGoOn.{run_goes}
use Rattle.std.proofs.Common.{ap, arith, inl, inr, refl, subst, sym, ◌∙◌}
use Rattle.std.proofs.lemmas.Bool.Decides.{nat_tests}
use Rattle.std.specs.Prelude.{Bool, List, [], false, length, nat_le, true, ℕ, ◌++◌, ◌+◌, ◌<◌, ◌∷◌, ◌≡◌, ◌≤◌, ◌⊎◌}

at_most : (m n : ℕ) → nat_le m n ≡ true → m ≤ n
at_most m n h = grind (arith, nat_tests)

above : (m n : ℕ) → nat_le m n ≡ false → n < m
above m n h = grind (arith, nat_tests)

-- ---- steps of events

two_more : (w n k : ℕ) → n ≡ w + ((1 + k) + 0) → k ≡ 1 → n ≡ w + 2
two_more w n k is one = omega (arith, is, one)

-- An event of a run takes two steps.
pub event_step : (w : World) (x : Happening) → HasSteps w x.0 x.1 → (happens w x.0 x.1).step ≡ w.step + 2
event_step w x h =
    let one : HasOneStep w x.0 x.1 = one_step w x.0 x.1 h in
    two_more w.step (world_after w (x ∷ [])).step (length x.1) (run_goes w (x ∷ [])).step (ap (λ fxs. length fxs) one.one)

-- Steps grow.
pub steps_grow : (w : World) (xs : List Happening) → w.step ≤ (world_after w xs).step
steps_grow w xs = let g = (run_goes w xs).step in omega (arith, g)

pub some_steps : (w : World) (x : Happening) (xs : List Happening) → w.step < (world_after w (x ∷ xs)).step
some_steps w x xs = let g = (run_goes w (x ∷ xs)).step in omega (arith, g)

-- ---- the front at a step

pub record FrontFrom (w : World) (xs : List Happening) (t : ℕ) : Type 0 where
  pub now : List Happening
  pub rest : List Happening
  pub whole : xs ≡ now ++ rest
  pub is : world_by w xs t ≡ world_after w now
  pub begins : (world_after w now).step ≤ t + 1
  pub ends : (rest ≡ []) ⊎ (t ≤ (world_after w now).step)

abbrev by_test : World → Happening → List Happening → ℕ → Bool → World
by_test w x xs t b = elim b as (λ z. World) [ true ↦ world_by (happens w x.0 x.1) xs t | false ↦ w ]

front_from : (w : World) (xs : List Happening) → IsRun w xs → (t : ℕ) → w.step ≤ t + 1 → FrontFrom w xs t
front_from w [] run t le = record { now = []; rest = []; whole = refl; is = refl; begins = le; ends = inl refl }
front_from w (x ∷ xs) run t le =
    by (λ less. front_from (happens w x.0 x.1) xs run.2 t less) (nat_le (happens w x.0 x.1).step (t + 1)) refl
  where
    by : ((happens w x.0 x.1).step ≤ t + 1 → FrontFrom (happens w x.0 x.1) xs t) → (b : Bool) → nat_le (happens w x.0 x.1).step (t + 1) ≡ b → FrontFrom w (x ∷ xs) t
    by more true is =
        let f = more (at_most (happens w x.0 x.1).step (t + 1) is) in
        record { now = x ∷ f.now; rest = f.rest; whole = ap (λ ys. x ∷ ys) f.whole; is = ap (by_test w x xs t) is ∙ f.is; begins = f.begins; ends = f.ends }
    by more false is =
        let next = event_step w x run.1 in
        let later = above (happens w x.0 x.1).step (t + 1) is in
        record { now = []; rest = x ∷ xs; whole = refl; is = ap (by_test w x xs t) is; begins = le; ends = inr (omega (arith, next, later)) }

first_step : (t : ℕ) → 1 ≤ t + 1
first_step t = omega arith

-- ---- fronts of one run

same_head : {A : Type 0} (x y : A) (xs ys : List A) → x ∷ xs ≡ y ∷ ys → x ≡ y
same_head x y xs ys h = cc

same_tail : {A : Type 0} (x y : A) (xs ys : List A) → x ∷ xs ≡ y ∷ ys → xs ≡ ys
same_tail x y xs ys h = cc

pub front_order : (w : World) (now rest later more : List Happening) → now ++ rest ≡ later ++ more → (world_after w now).step ≤ (world_after w later).step
    → (mid : List Happening) × (later ≡ now ++ mid)
front_order w [] rest later more same le = (later, refl)
front_order w (x ∷ now) rest [] more same le = absurd (let lt = some_steps w x now in omega (arith, lt, le))
front_order w (x ∷ now) rest (y ∷ later) more same le =
    let one : x ≡ y = same_head x y (now ++ rest) (later ++ more) same in
    let r = front_order (happens w x.0 x.1) now rest later more (same_tail x y (now ++ rest) (later ++ more) same)
    (subst (λ (z : Happening). (world_after (happens w x.0 x.1) now).step ≤ (world_after (happens w z.0 z.1) later).step) (sym one) le) in
    (r.0, ap (λ z. z ∷ later) (sym one) ∙ ap (λ ys. x ∷ ys) r.1)

-- A list is empty, or ends with something.
pub data Ended {A : Type 0} (xs : List A) : Type 0 where
  Nothing : xs ≡ [] → Ended xs
  Ends : (front : List A) (x : A) → xs ≡ front ++ x ∷ [] → Ended xs

pub ended : {A : Type 0} (xs : List A) → Ended xs
ended [] = Nothing refl
ended {A} (x ∷ xs) = by (ended xs) where
  by : Ended xs → Ended (x ∷ xs)
  by (Nothing is) = Ends [] x (ap (λ ys. x ∷ ys) is)
  by (Ends front y is) = Ends (x ∷ front) y (ap (λ ys. x ∷ ys) is)

-- ---- the fronts of a lawful run

-- The front at a step, with what comes after it.
pub record FrontAt (p : Program) (h : Header) (xs : List Happening) (t : ℕ) : Type 0 where
  pub now : List Happening
  pub rest : List Happening
  pub whole : xs ≡ now ++ rest
  pub run : LawfulRun p h (now ++ rest)
  pub is : world_by (world_with p h) xs t ≡ world_at p h now
  pub begins : (world_at p h now).step ≤ t + 1
  pub ends : (rest ≡ []) ⊎ (t ≤ (world_at p h now).step)

pub front_at : (p : Program) (h : Header) (xs : List Happening) → LawfulRun p h xs → (t : ℕ) → FrontAt p h xs t
front_at p h xs run t =
    let f = front_from (world_with p h) xs run.is_run t (first_step t) in
    record { now = f.now; rest = f.rest; whole = f.whole; run = subst (λ ys. LawfulRun p h ys) f.whole run; is = f.is; begins = f.begins; ends = f.ends }

pub nothing_more : {A : Type 0} (xs : List A) → xs ++ [] ≡ xs
nothing_more [] = refl
nothing_more (x ∷ xs) = ap (λ ys. x ∷ ys) (nothing_more xs)

-- The front at a later step goes on from the front at a step.
pub fronts_nest : (p : Program) (h : Header) (xs : List Happening) (t u : ℕ) (f : FrontAt p h xs t) (g : FrontAt p h xs u) → t < u → (mid : List Happening) × (g.now ≡ f.now ++ mid)
fronts_nest p h xs t u f g lt =
    front_order (world_with p h) f.now f.rest g.now g.rest (sym f.whole ∙ g.whole) (by g.ends)
  where
    by : (g.rest ≡ []) ⊎ (u ≤ (world_at p h g.now).step) → (world_at p h f.now).step ≤ (world_at p h g.now).step
    by (inr le) = omega (arith, f.begins, le, lt)
    by (inl none) =
        let whole : g.now ≡ f.now ++ f.rest = sym (nothing_more g.now) ∙ ap (λ ys. g.now ++ ys) (sym none) ∙ sym g.whole ∙ f.whole in
        subst (λ (v : World). (world_at p h f.now).step ≤ v.step) (sym (ap (world_at p h) whole ∙ run_after (world_with p h) f.now f.rest)) (steps_grow (world_at p h f.now) f.rest)
