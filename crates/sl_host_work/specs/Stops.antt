-- A recovery or a leaving begins, a job is refused: by what of a member and of a job.
use Rattle.sl_host_law.specs.StepParts.Refusals.{replying_to}
use Rattle.sl_host_law.specs.Questions.Jobs.{is_overdue_in}
use Rattle.sl_host_state.specs.StepQuestions.{begins_in}
use Rattle.sl_host_state.specs.KeptState.{HostKept, HostState, MemberState}
use Rattle.sl_host_state.specs.MadeEffects.{has_write_open}
use Rattle.sl_host_state.specs.declared.kept_parts.JobState.{JobState}
use Rattle.sl_host_state.specs.declared.kept_parts.WaitingCall.{WaitingCall}
use Rattle.sl_host_work.specs.Holders.{holders_under, signalling_all}
use Rattle.sl_host_work.specs.declared.recoveries.Stopped.{Stopped}
use Rattle.sl_trace.specs.declared.effects.Signal.TheVariants.{Term}
use Rattle.sl_trace.specs.declared.reply.Reply.TheVariants.{Recovering}
use Rattle.sl_trace.specs.declared.reply.Reply.{Reply}
use Rattle.sl_host.specs.ChosenJobs.{chosen_among}
use Rattle.sl_host.specs.declared.passes.Chosen.TheVariants.{OfLockspace}
use Rattle.sl_host.specs.declared.passes.Chosen.{Chosen}
use Rattle.sl_words.specs.Words.{choose}
use Rattle.std.specs.Prelude.{List, None, Option, Some, length, not, option_and_then, ℕ, ◌+◌}

-- Those jobs have this reply.
abbrev pub refusing_by : Chosen → Reply → HostState → HostState
refusing_by w r h = replying_to (chosen_among w h.jobs) r h

-- The holders of the session are told to stop, and the jobs that name its lockspace refused, but one.
abbrev pub stopping : Stopped → Option ℕ → HostState → HostState
stopping s but h = refusing_by (OfLockspace s.lockspace but) (Recovering s.renewed) (signalling_all Term s.session h)

-- What of a member is stopped.
abbrev pub stopped_of : MemberState → Stopped
stopped_of m = record { session = m.who.number; lockspace = m.who.lockspace; renewed = m.renewing.last }

-- The same where its recovery begins in the step.
abbrev pub recovering_of : HostState → Option MemberState → Option Stopped
recovering_of h None = None
recovering_of h (Some m) = choose (begins_in h m.renewing.recovery) (stopped_of m)

-- The lockspace of the joining that the job is, where no write of it is unanswered: its connection goes with a refusal.
abbrev pub parted_with : HostState → Option MemberState → Option (List ℕ)
parted_with h None = None
parted_with h (Some m) = choose (not (has_write_open h m.who.number)) m.who.lockspace

-- The call of a job that is overdue.
abbrev pub overdue_of : HostState → Option JobState → Option WaitingCall
overdue_of h None = None
overdue_of h (Some j) = option_and_then (λ c. choose (is_overdue_in h c) c) j.waits

-- How many effects it makes that one is stopped: one for each holder, one for each job.
abbrev pub stopping_cost : HostKept → Option Stopped → ℕ
stopping_cost k None = 0
stopping_cost k (Some s) = length (holders_under s.session k.holdings) + length (chosen_among (OfLockspace s.lockspace None) k.jobs)
