-- What an input makes due (`take_input`):
--
-- 1. `Line`: the command is decided and carried out (`on_line`).
-- 2. `Number`: nothing.
-- 3. `Answer`: what comes next of what its call was for, if the call's session was there before it (`after_answer`).
-- 4. `Exit`: the process's holdings end or become orphans, then its jobs are refused (`on_exit`).
-- 5. `Spawned`: the job is answered; a start that failed ends the holding, and a term goes in place of a kill program (`on_spawned`).
-- 6. `Wake`: nothing here; `on_wake` comes afterwards.
use Rattle.sl_due.specs.DueAnswers.{after_answer}
use Rattle.sl_due.specs.DueCommands.{on_line}
use Rattle.sl_due.specs.Steps.{Step, add_end, add_grant, add_reply, add_signal, for_each, seen, when, with_input, with_some}
use Rattle.sl_trace.specs.Jobs.{is_job_of_process, job_of_start}
use Rattle.sl_trace.specs.Sessions.{is_present}
use Rattle.sl_trace.specs.Traces.{Trace, end_of, holdings, is_running, no_process, orphans_left, running_jobs, stands_for}
use Rattle.sl_trace.specs.declared.effects.Signal.TheVariants.{Term}
use Rattle.sl_trace.specs.declared.input.Input.TheVariants.{Answer as Told, Exit, Line, Number, Spawned, Wake}
use Rattle.sl_trace.specs.declared.input.Input.{Input}
use Rattle.sl_trace.specs.declared.reply.Reply.TheVariants.{NoProcess, SpawnFault, Started}
use Rattle.sl_trace.specs.declared.reply.Reply.{Reply}
use Rattle.std.specs.Option.{option_map_or}
use Rattle.std.specs.Prelude.{Bool, None, Option, Some, false, filter, find, not, true, ℕ, ◌==◌}

-- ---- exits and starts

-- All holdings of the process end, in the order of their grants.
abbrev pub end_holdings : ℕ → Step → Step
end_holdings p x = for_each (filter (λ g. g.process == p) (holdings (seen x))) (λ g. add_end (end_of g)) x

-- The running jobs of the process, and those that wait for it, are refused.
abbrev pub refuse_jobs_of : ℕ → Step → Step
refuse_jobs_of p x = for_each (filter (is_job_of_process (seen x) p) (running_jobs x.setting (seen x))) (λ j. add_reply j.number (NoProcess p)) x

-- The holdings of the process end, and the persistent ones are from here on the machine's orphans, whatever their session's state.
unfoldable pub leave_holdings : ℕ → Step → Step
leave_holdings p x = for_each (orphans_left p (holdings (seen x))) add_grant (end_holdings p x)

-- A process has exited: its holdings end or become orphans, its jobs are refused. (No process has the number of none.).
unfoldable pub on_exit : ℕ → Step → Step
on_exit p x = when (not (p == no_process)) (λ y. refuse_jobs_of p (leave_holdings p y)) x

-- The reply to a command whose child was started.
abbrev pub started_reply : Trace → ℕ → Reply
started_reply es p = Started (option_map_or (λ g. g.lver) (find (λ g. g.process == p) (holdings es)) 0) p

-- The reply, where the job still runs.
abbrev pub when_running : Option ℕ → Reply → Step → Step
when_running None r x = x
when_running (Some j) r x = when (is_running (seen x) j) (add_reply j r) x

-- The term for which a kill program stood that was not started, also where its process has exited since.
abbrev pub signal_instead : ℕ → Step → Step
signal_instead p x = with_some (stands_for (seen x) p) (λ q. add_signal q Term) x

-- A child was started, or not.
unfoldable pub on_spawned : ℕ → Bool → Step → Step
on_spawned p true x = when_running (job_of_start (seen x) p) (started_reply (seen x) p) x
on_spawned p false x = signal_instead p (when_running (job_of_start (seen x) p) SpawnFault (end_holdings p x))

-- ---- the input

-- What the input makes due; a wake is looked at afterwards.
unfoldable pub take_input : Input → Step → Step
take_input (Line text) x = on_line text x
take_input (Number text) x = with_input (Number text) x
take_input (Told call answer) x = after_answer (is_present (seen x)) call answer (with_input (Told call answer) x)
take_input (Exit p) x = on_exit p (with_input (Exit p) x)
take_input (Spawned p ok) x = on_spawned p ok (with_input (Spawned p ok) x)
take_input Wake x = x
