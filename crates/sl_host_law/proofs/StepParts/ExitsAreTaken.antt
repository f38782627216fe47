-- What an exit makes due.
use Rattle.sl_due.specs.DueInputs.{end_holdings, leave_holdings, on_exit, refuse_jobs_of}
use Rattle.sl_due.specs.Steps.{Step, add_end, add_grant, add_reply, for_each, seen}
use Rattle.sl_host_state.proofs.EffectsAreTaken.{effects_are_taken}
use Rattle.sl_host_state.specs.KeptState.{HostState}
use Rattle.sl_host_state.specs.MadeEffects.{with_end, with_grant}
use Rattle.sl_host_state.specs.HostStands.{Stands, Takes, kept_job}
use Rattle.sl_trace.specs.Jobs.{is_job_of_process}
use Rattle.sl_host_law.proofs.StepParts.RefusalsAreTaken.{by_number, some_jobs}
use Rattle.sl_host_law.proofs.StepParts.SignalsAreTaken.{each_taken}
use Rattle.sl_host_law.specs.StepParts.Exits.{ExitsAreTaken, ending, exiting, leaving, refusing_of}
use Rattle.sl_host_law.specs.StepParts.Refusals.{numbers_of}
use Rattle.sl_host_law.specs.StepParts.Signals.{over}
use Rattle.sl_host_law.proofs.Questions.JobsAnswer.{jobs_answer}
use Rattle.sl_host_law.specs.Questions.Jobs.{is_of_process_in}
use Rattle.sl_trace.specs.Traces.{Job, end_of, no_process, orphans_left, running_jobs}
use Rattle.sl_trace.specs.declared.effects.Grant.{Grant}
use Rattle.sl_trace.specs.declared.input.Input.TheVariants.{Exit}
use Rattle.sl_trace.specs.declared.reply.Reply.TheVariants.{NoProcess}
use Rattle.std.proofs.Common.{ap, refl, subst, sym, ◌∙◌}
use Rattle.std.specs.Prelude.{Bool, List, cond, false, filter, map, not, true, [], ℕ, ◌==◌, ◌∷◌, ◌≡◌}

-- ---- holdings

each_ends : (gs : List Grant) (h : HostState) → h.made.grants ≡ [] → Takes h (over gs (λ g. with_end (end_of g)) h) (for_each gs (λ g. add_end (end_of g)))
each_ends [] h none i x s = s
each_ends (g ∷ gs) h none i x s = each_ends gs (with_end (end_of g) h) none i (add_end (end_of g) x) (effects_are_taken.ended (end_of g) h none i x s)

ends : (p : ℕ) (h : HostState) → h.made.grants ≡ [] → Takes h (ending p h) (end_holdings p)
ends p h none i x s =
    subst (λ gs. Stands i (ending p h) (for_each (filter (λ (g : Grant). g.process == p) gs) (λ g. add_end (end_of g)) x)) (sym s.keeps.holdings)
    (each_ends (filter (λ (g : Grant). g.process == p) h.holdings) h none i x s)

leaves : (p : ℕ) (h : HostState) → h.made.grants ≡ [] → Takes h (leaving p h) (leave_holdings p)
unfolding leave_holdings
leaves p h none i x s =
    subst (λ gs. Stands i (leaving p h) (for_each (orphans_left p gs) add_grant (end_holdings p x))) (sym s.keeps.holdings)
    (each_taken (orphans_left p h.holdings) add_grant with_grant (λ g a. effects_are_taken.grant g a) (ending p h) i (end_holdings p x) (ends p h none i x s))

-- ---- jobs

jobs : (p q : ℕ) (h : HostState) (x : Step) → Stands (Exit q) h x → Stands (Exit q) (refusing_of p h) (refuse_jobs_of p x)
jobs p q h x s =
    let js : List Job = filter (is_job_of_process (seen x) p) (running_jobs x.setting (seen x)) in
    let numbers : map (λ (j : Job). j.number) js ≡ numbers_of (filter (is_of_process_in p) h.jobs) =
    through js ∙ ap numbers_of ((jobs_answer (Exit q) h x s).process p)
    in
    subst (λ y. Stands (Exit q) (refusing_of p h) y) (sym (by_number js (NoProcess p) x ∙ ap (λ ns. for_each ns (λ n. add_reply n (NoProcess p)) x) numbers))
    (some_jobs (Exit q) h x (filter (is_of_process_in p) h.jobs) (NoProcess p) (is_of_process_in p) s refl (λ n there. (tt, tt))) where
      through : (ks : List Job) → map (λ (j : Job). j.number) ks ≡ numbers_of (map (kept_job (seen x)) ks)
      through [] = refl
      through (k ∷ ks) = ap (λ ns. k.number ∷ ns) (through ks)

-- ---- the whole

whole : (p : ℕ) (h : HostState) (x : Step) → h.made.grants ≡ [] → Stands (Exit p) h x → Stands (Exit p) (exiting p h) (on_exit p x)
unfolding on_exit
whole p h x none s = by (p == no_process) where
  by : (b : Bool) → Stands (Exit p) (cond b h (refusing_of p (leaving p h))) (elim (not b) as (λ z. Step) [ true ↦ refuse_jobs_of p (leave_holdings p x) | false ↦ x ])
  by true = s
  by false = jobs p p (leaving p h) (leave_holdings p x) (leaves p h none (Exit p) x s)

pub exits_are_taken : ExitsAreTaken
exits_are_taken = record { ends = ends; leaves = leaves; jobs = jobs; whole = whole }
