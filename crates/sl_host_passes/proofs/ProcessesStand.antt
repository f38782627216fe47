-- Exits and starts: what ends of holdings, and which jobs stay.
use Rattle.sl_host_law.specs.StepParts.Exits.{ending, exiting, leaving, refusing_of}
use Rattle.sl_host_law.specs.StepParts.Signals.{over}
use Rattle.sl_host_law.specs.StepParts.Spawns.{child_in, spawning}
use Rattle.sl_host_law.specs.Steps.Inputs.{starting}
use Rattle.sl_host_passes.proofs.LessIsLeft.{kept_few}
use Rattle.sl_host_state.specs.HeardInputs.{heard_start}
use Rattle.sl_host_state.specs.KeptState.{HostState}
use Rattle.sl_host_state.specs.MadeEffects.{with_end, with_grant}
use Rattle.sl_host_state.specs.declared.kept_parts.JobState.{JobState}
use Rattle.sl_host_work.specs.ProcessHoldings.{held_by}
use Rattle.sl_tables.specs.Children.{child_of}
use Rattle.sl_tables.specs.declared.children.ChildState.{ChildState}
use Rattle.sl_trace.specs.Traces.{Child, end_of, leaves_orphan, no_process, orphan_of, orphans_left}
use Rattle.sl_trace.specs.declared.effects.Grant.{Grant}
use Rattle.sl_host.specs.ChosenJobs.{chosen_among, is_chosen}
use Rattle.sl_host.specs.declared.passes.Chosen.{Chosen}
use Rattle.std.proofs.Common.{ap, arith, refl, sym, ◌∙◌}
use Rattle.std.proofs.lemmas.List.{length-map}
use Rattle.std.specs.Prelude.{Bool, List, None, Option, Some, [], cond, false, filter, length, map, option_map, ℕ, ◌*◌, ◌+◌, ◌==◌, ◌∷◌, ◌≡◌, ◌≤◌}

-- ---- counts

pub held_few : (p : ℕ) (held : List Grant) → length (held_by p held) ≤ length held
held_few p held = kept_few (λ g. g.process == p) held

pub left_few : (p : ℕ) (held : List Grant) → length (held_by p held) + length (orphans_left p held) ≤ 2 * length held
left_few p held =
    let one : length (held_by p held) ≤ length held = held_few p held in
    let same : length (orphans_left p held) ≡ length (filter (leaves_orphan held p) held) = length-map (filter (leaves_orphan held p) held) orphan_of in
    let two : length (filter (leaves_orphan held p) held) ≤ length held = kept_few (leaves_orphan held p) held in
    omega (arith, one, same, two)

pub chosen_few : (w : Chosen) (js : List JobState) → length (chosen_among w js) ≤ length js
chosen_few w js =
    let same : length (chosen_among w js) ≡ length (filter (is_chosen w) js) = length-map (filter (is_chosen w) js) (λ (j : JobState). j.number) in
    let few : length (filter (is_chosen w) js) ≤ length js = kept_few (is_chosen w) js in
    omega (arith, same, few)

-- ---- jobs stay

over_jobs : {A : Type 0} (f : A → HostState → HostState) → ((x : A) (h : HostState) → (f x h).jobs ≡ h.jobs) → (xs : List A) (h : HostState) → (over xs f h).jobs ≡ h.jobs
over_jobs f each [] h = refl
over_jobs f each (x ∷ xs) h = over_jobs f each xs (f x h) ∙ each x h

pub leaving_jobs : (p : ℕ) (h : HostState) → (leaving p h).jobs ≡ h.jobs
leaving_jobs p h =
    over_jobs with_grant (λ g k. refl) (orphans_left p h.holdings) (ending p h)
    ∙ over_jobs (λ g. with_end (end_of g)) (λ g k. refl) (filter (λ g. g.process == p) h.holdings) h

-- ---- the whole

pub exits_so : (p : ℕ) (h : HostState) → (p == no_process) ≡ false → refusing_of p (leaving p h) ≡ exiting p h
exits_so p h is = sym (ap (λ b. cond b h (refusing_of p (leaving p h))) is)

-- The child that was looked up.
pub found_child : {A : Type 0} (g : A → ChildState) (o : Option A) (r : Option ChildState) (k : ChildState) (h : HostState) (p : ℕ)
    → option_map (λ x. child_of (g x)) o ≡ child_in h p → r ≡ option_map g o → r ≡ Some k → child_in h p ≡ Some (child_of k)
found_child g o r k h p found copied is = sym found ∙ (twice o ∙ ap (λ (z : Option ChildState). option_map child_of z) (sym copied ∙ is)) where
  twice : (o : Option _) → option_map (λ x. child_of (g x)) o ≡ option_map child_of (option_map g o)
  twice None = refl
  twice (Some x) = refl

pub found_none : {A : Type 0} (g : A → ChildState) (o : Option A) (r : Option ChildState) (h : HostState) (p : ℕ)
    → option_map (λ x. child_of (g x)) o ≡ child_in h p → r ≡ option_map g o → r ≡ None → child_in h p ≡ None
found_none g o r h p found copied is = sym found ∙ (twice o ∙ ap (λ (z : Option ChildState). option_map child_of z) (sym copied ∙ is)) where
  twice : (o : Option _) → option_map (λ x. child_of (g x)) o ≡ option_map child_of (option_map g o)
  twice None = refl
  twice (Some x) = refl

abbrev started_by : Option Child → ℕ → Bool → HostState → HostState
started_by o p ok h = elim o as (λ z. HostState) [ None ↦ heard_start p ok h | Some k ↦ spawning p ok k (heard_start p ok h) ]

pub starts_so : (p : ℕ) (ok : Bool) (k : Child) (h : HostState) → child_in h p ≡ Some k → spawning p ok k (heard_start p ok h) ≡ starting p ok h
starts_so p ok k h is = sym (ap (λ o. started_by o p ok h) is)

pub starts_not : (p : ℕ) (ok : Bool) (h : HostState) → child_in h p ≡ None → heard_start p ok h ≡ starting p ok h
starts_not p ok h is = sym (ap (λ o. started_by o p ok h) is)
