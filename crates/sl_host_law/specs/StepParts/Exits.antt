-- A process has exited: its holdings end or become the machine's orphans, its jobs are refused.
use Rattle.sl_due.specs.DueInputs.{end_holdings, leave_holdings, on_exit, refuse_jobs_of}
use Rattle.sl_due.specs.Steps.{Step}
use Rattle.sl_host_state.specs.KeptState.{HostState}
use Rattle.sl_host_state.specs.MadeEffects.{with_end, with_grant}
use Rattle.sl_host_state.specs.HostStands.{Stands, Takes}
use Rattle.sl_host_law.specs.StepParts.Refusals.{numbers_of, replying_to}
use Rattle.sl_host_law.specs.StepParts.Signals.{over}
use Rattle.sl_host_law.specs.Questions.Jobs.{is_of_process_in}
use Rattle.sl_trace.specs.Traces.{end_of, no_process, orphans_left}
use Rattle.sl_trace.specs.declared.input.Input.TheVariants.{Exit}
use Rattle.sl_trace.specs.declared.reply.Reply.TheVariants.{NoProcess}
use Rattle.std.specs.Prelude.{cond, filter, [], ℕ, ◌==◌, ◌≡◌}

-- All holdings of the process end.
abbrev pub ending : ℕ → HostState → HostState
ending p h = over (filter (λ g. g.process == p) h.holdings) (λ g. with_end (end_of g)) h

-- And the persistent ones are orphans from here on.
abbrev pub leaving : ℕ → HostState → HostState
leaving p h = over (orphans_left p h.holdings) with_grant (ending p h)

-- The jobs of the process, and those that wait for it, are refused.
abbrev pub refusing_of : ℕ → HostState → HostState
refusing_of p h = replying_to (numbers_of (filter (is_of_process_in p) h.jobs)) (NoProcess p) h

-- The whole of an exit.
abbrev pub exiting : ℕ → HostState → HostState
exiting p h = cond (p == no_process) h (refusing_of p (leaving p h))

-- The state follows the step, where it has granted nothing before.
pub record ExitsAreTaken : Type 0 where
  pub ends : (p : ℕ) (h : HostState) → h.made.grants ≡ [] → Takes h (ending p h) (end_holdings p)
  pub leaves : (p : ℕ) (h : HostState) → h.made.grants ≡ [] → Takes h (leaving p h) (leave_holdings p)
  pub jobs : (p q : ℕ) (h : HostState) (x : Step) → Stands (Exit q) h x → Stands (Exit q) (refusing_of p h) (refuse_jobs_of p x)
  pub whole : (p : ℕ) (h : HostState) (x : Step) → h.made.grants ≡ [] → Stands (Exit p) h x → Stands (Exit p) (exiting p h) (on_exit p x)
