-- Parts of a step that go over holders, holdings and jobs, or refuse one: what they are by what is kept.
use Rattle.sl_due.specs.DueRecovery.{begin_recovery, kill_holders, refuse_jobs, send, signal_and_refuse, signal_holders, tell_to_stop}
use Rattle.sl_due.specs.DueTimeOuts.{is_overdue, refuse, remove_connection, remove_of_refused, time_outs}
use Rattle.sl_due.specs.DueInputs.{end_holdings, leave_holdings, refuse_jobs_of, started_reply}
use Rattle.sl_due.specs.Steps.{Step, add_end, add_grant, add_move, add_reply, add_signal, add_start, for_each, seen, when, with_input, with_some}
use Rattle.sl_host_law.specs.SharedFacts.AtInput.{IsAtInput}
use Rattle.sl_host_state.specs.StepQuestions.{begins_in, is_kill_due_in, stopper_in}
use Rattle.sl_host_state.specs.HeardInputs.{heard_answer}
use Rattle.sl_host_state.specs.KeptState.{HostState, MemberState}
use Rattle.sl_host_state.specs.MadeEffects.{has_write_open}
use Rattle.sl_host_state.specs.HostStands.{Stands}
use Rattle.sl_host_state.specs.declared.kept_parts.JobState.{JobState}
use Rattle.sl_host_law.specs.Questions.Jobs.{is_of_process_in, joining_in, time_out_in}
use Rattle.sl_host_law.specs.Questions.Members.{IsMemberAt, holders_in, jobs_in}
use Rattle.sl_host_law.specs.Replies.Answers.{FitsCall, IsOpen}
use Rattle.sl_host_law.specs.Replies.RepliesAreTaken.{MayReply}
use Rattle.sl_host_state.specs.declared.kept_parts.OpenCall.{OpenCall}
use Rattle.sl_trace.specs.Sessions.{is_join_done}
use Rattle.sl_trace.specs.Traces.{end_of, first_child, orphans_left, waiting_call}
use Rattle.sl_trace.specs.declared.effects.Move.TheVariants.{Unregister}
use Rattle.sl_trace.specs.declared.effects.Signal.TheVariants.{Kill, Term}
use Rattle.sl_trace.specs.declared.effects.Signal.{Signal}
use Rattle.sl_trace.specs.declared.input.Answer.{Answer}
use Rattle.sl_trace.specs.declared.input.Input.TheVariants.{Answer as Told, Wake}
use Rattle.sl_trace.specs.declared.input.Input.{Input}
use Rattle.sl_trace.specs.declared.reply.Reply.TheVariants.{IoTimeout, NoProcess, Recovering, Started}
use Rattle.sl_trace.specs.declared.reply.Reply.{Reply}
use Rattle.sl_words.specs.Words.{some_is}
use Rattle.std.specs.List.{list_any}
use Rattle.std.specs.Option.{option_map_or}
use Rattle.std.specs.Prelude.{List, None, Option, Some, bytes_eq, false, filter, find, map, not, slice_get, ℕ, ◌&&◌, ◌+◌, ◌==◌, ◌||◌, ◌≡◌}

-- ---- of a member

pub record MemberParts (h : HostState) (x : Step) (m : MemberState) : Type 0 where
  pub recovery : begin_recovery m.who x ≡ when (begins_in h m.renewing.recovery) (signal_and_refuse m.who None) x
  pub kills : kill_holders m.who x ≡ when (m.joined && (is_kill_due_in h m.renewing.recovery || is_kill_due_in h m.leaving)) (signal_holders Kill m.who) x
  pub signals : (signal : Signal) → signal_holders signal m.who x ≡ for_each (holders_in h m) (λ p. send p signal) x
  pub refusals : (kept : Option ℕ) → refuse_jobs m.who kept x
      ≡ for_each (map (λ j. j.number) (filter (λ j. not (some_is (λ k. k == j.number) kept)) (jobs_in h m))) (λ n. add_reply n (Recovering m.renewing.last)) x

abbrev pub MembersPart : Type 0
MembersPart = (i : Input) (h : HostState) (x : Step) (k : ℕ) (m : MemberState) → IsMemberAt i h x k m → MemberParts h x m

-- ---- of the whole

-- The job of this number is refused, if its call is overdue.
abbrev pub time_out_of : ℕ → Step → Step
time_out_of n x =
    with_some (waiting_call (seen x) n) (λ m. when (is_overdue x.setting x.reading m) (refuse n (IoTimeout m.call.number m.reading x.reading))) x

pub record HostParts (h : HostState) (x : Step) : Type 0 where
  pub stops : (p : ℕ) → tell_to_stop p x
      ≡ elim (stopper_in h p) [
        | None ↦ add_signal p Term x
        | Some program ↦ add_start (record { process = first_child + h.started; program = program; job = None; stands_for = Some p }) x
      ]
  pub connection : (name : List ℕ) → remove_connection name x ≡ when (list_any (λ n. bytes_eq n name) h.connected) (add_move (Unregister name)) x
  pub holdings : (p : ℕ) → end_holdings p x ≡ for_each (filter (λ g. g.process == p) h.holdings) (λ g. add_end (end_of g)) x
  pub orphans : (p : ℕ) → leave_holdings p x ≡ for_each (orphans_left p h.holdings) add_grant (end_holdings p x)
  pub processes : (p : ℕ) → refuse_jobs_of p x ≡ for_each (map (λ j. j.number) (filter (is_of_process_in p) h.jobs)) (λ n. add_reply n (NoProcess p)) x
  pub started : (p : ℕ) → started_reply (seen x) p ≡ Started (option_map_or (λ g. g.lver) (find (λ g. g.process == p) h.holdings) 0) p
  -- the pass over jobs is one over their numbers, and each is as it is kept then
  pub time_outs : time_outs x ≡ for_each (map (λ j. j.number) h.jobs) time_out_of x
  pub time_out : (k : ℕ) (j : JobState) → slice_get h.jobs k ≡ Some j → time_out_of j.number x ≡ time_out_in h j x

abbrev pub HostsPart : Type 0
HostsPart = (i : Input) (h : HostState) (x : Step) → Stands i h x → HostParts h x

-- ---- refusals

pub record RefusalsAreTold : Type 0 where
  -- a joining's connection goes with it, unless a write of it is unanswered
  pub refused : (i : Input) (h : HostState) (x : Step) (job : ℕ) (r : Reply) → Stands i h x → MayReply i h x job r → is_join_done r ≡ false
      → refuse job r x
      ≡ elim (joining_in h job) [
        | None ↦ add_reply job r x
        | Some m ↦ when (not (has_write_open h m.who.number)) (remove_connection m.who.lockspace) (add_reply job r x)
      ]
  -- or once that is answered
  pub removed : (number : ℕ) (c : OpenCall) (a : Answer) (h : HostState) (x : Step) (k : ℕ) (m : MemberState) → Stands Wake h x → IsOpen h number c → FitsCall h.config.layout a c → IsAtInput h
      → slice_get h.members k ≡ Some m
      → remove_of_refused m.who (with_input (Told number a) x)
      ≡ when (m.refused && not (has_write_open (heard_answer number a h) m.who.number)) (remove_connection m.who.lockspace) (with_input (Told number a) x)
