-- Which jobs are refused: those of a session as its recovery or leaving begins, one after another.
use Rattle.sl_due.specs.DueRecovery.{refuse_jobs, signal_and_refuse}
use Rattle.sl_due.specs.Steps.{Step, add_reply, for_each}
use Rattle.sl_host_state.specs.KeptState.{HostState, MemberState}
use Rattle.sl_host_state.specs.MadeEffects.{with_reply}
use Rattle.sl_host_state.specs.HostStands.{Stands}
use Rattle.sl_host_state.specs.declared.kept_parts.JobState.{JobState}
use Rattle.sl_host_law.specs.StepParts.Signals.{over, signalling}
use Rattle.sl_host_law.specs.Questions.Members.{IsMemberAt, jobs_in}
use Rattle.sl_host_law.specs.Replies.RepliesAreTaken.{LeavesHeed, LeavesLine}
use Rattle.sl_trace.specs.Traces.{Trace}
use Rattle.sl_trace.specs.declared.effects.Signal.TheVariants.{Term}
use Rattle.sl_trace.specs.declared.input.Input.{Input}
use Rattle.sl_trace.specs.declared.reply.Reply.TheVariants.{Recovering}
use Rattle.sl_trace.specs.declared.reply.Reply.{Reply}
use Rattle.sl_words.specs.Words.{some_is}
use Rattle.std.specs.Prelude.{Bool, Contains, List, Option, filter, map, not, ℕ, ◌==◌, ◌≡◌}

-- Each of these jobs has this reply.
abbrev pub replying_to : List ℕ → Reply → HostState → HostState
replying_to ns r h = over ns (λ n. with_reply n r) h

-- The numbers of jobs.
abbrev pub numbers_of : List JobState → List ℕ
numbers_of js = map (λ j. j.number) js

-- The running jobs of the member, but one that is kept.
abbrev pub jobs_but : Option ℕ → HostState → MemberState → List JobState
jobs_but kept h m = filter (λ j. not (some_is (λ k. k == j.number) kept)) (jobs_in h m)

-- They are refused.
abbrev pub refusing_jobs : MemberState → Option ℕ → HostState → HostState
refusing_jobs m kept h = replying_to (numbers_of (jobs_but kept h m)) (Recovering m.renewing.last) h

-- A recovery or a leaving begins.
abbrev pub signalling_and_refusing : MemberState → Option ℕ → HostState → HostState
signalling_and_refusing m kept h = refusing_jobs m kept (signalling Term m h)

-- A reply to each of these jobs leaves what the input has done.
abbrev pub MayRefuse : Input → HostState → Trace → Reply → List ℕ → Type 0
MayRefuse i h past r ns = (n : ℕ) → Contains ns n → LeavesHeed i n r past × LeavesLine i n h

-- The state follows the step.
pub record RefusalsAreTaken : Type 0 where
  pub jobs : (i : Input) (h : HostState) (x : Step) (js : List JobState) (r : Reply) (p : JobState → Bool) → Stands i h x → js ≡ filter p h.jobs → MayRefuse i h x.past r (numbers_of js)
      → Stands i (replying_to (numbers_of js) r h) (for_each (numbers_of js) (λ n. add_reply n r) x)
  pub session : (i : Input) (h : HostState) (x : Step) (k : ℕ) (m : MemberState) (kept : Option ℕ) → IsMemberAt i h x k m
      → MayRefuse i h x.past (Recovering m.renewing.last) (numbers_of (jobs_but kept h m)) → Stands i (refusing_jobs m kept h) (refuse_jobs m.who kept x)
  pub whole : (i : Input) (h : HostState) (x : Step) (k : ℕ) (m : MemberState) (kept : Option ℕ) → IsMemberAt i h x k m
      → MayRefuse i h x.past (Recovering m.renewing.last) (numbers_of (jobs_but kept h m)) → Stands i (signalling_and_refusing m kept h) (signal_and_refuse m.who kept x)
