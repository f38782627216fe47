-- The acts of an answer, from what holds once it is heard to what holds where all that it makes due is done, and what comes after them in
-- its entry.
use Rattle.sl_due_facts.specs.Acts.Acts.{Has, Hears, IsIdle, lone_job}
use Rattle.sl_due.specs.DueAnswers.{set_reply}
use Rattle.sl_due.specs.CarriedDelta.{begins_by_read, carry_delta, see_request}
use Rattle.sl_due.specs.DueTimeOuts.{remove_connection, remove_of_refused}
use Rattle.sl_due.specs.DueRecovery.{send, signal_and_refuse}
use Rattle.sl_due.specs.CarriedLease.{carry_lease, goes_on, next_of_lease}
use Rattle.sl_due.specs.DueRequests.{after_request_read, after_value_read, signal_of_request}
use Rattle.sl_due.specs.Steps.{Step, add_reply, seen, with_input}
use Rattle.sl_trace.specs.Jobs.{aim_of, command_numbered}
use Rattle.sl_trace.specs.Leases.{exclusive_on, spot_of_call}
use Rattle.sl_trace.specs.declared.lease.Aim.{Aim}
use Rattle.sl_trace.specs.DeltaDecisions.{delta_known, delta_of_session, next_after_free, next_after_renewal, next_free, next_in_joining}
use Rattle.sl_trace.specs.Sessions.{calls_of, generation_of, has_open_write, holdings_of, is_joined, is_present, open_calls_of, recovery_of, session_numbered}
use Rattle.sl_trace.specs.declared.session.Session.{Session}
use Rattle.sl_trace.specs.Traces.{Submitted, call_numbered, is_orphan, is_running}
use Rattle.sl_trace.specs.declared.command.Command.{Command}
use Rattle.sl_trace.specs.declared.effects.Grant.{Grant}
use Rattle.sl_trace.specs.declared.effects.JoinStep.{JoinStep}
use Rattle.sl_trace.specs.declared.effects.LeaseStep.{LeaseStep}
use Rattle.sl_trace.specs.declared.effects.Purpose.TheVariants.{Joining, Lease, Leaving, Renewal, RequestRead, RequestWrite, SeeRequest, Survey, ValueRead, ValueWrite}
use Rattle.sl_trace.specs.declared.effects.Signal.{Signal}
use Rattle.sl_trace.specs.declared.effects.Spot.{Spot}
use Rattle.sl_trace.specs.declared.effects.Work.{Work}
use Rattle.sl_trace.specs.declared.input.Answer.TheVariants.{Failed, Read, Written}
use Rattle.sl_trace.specs.declared.input.Answer.{Answer}
use Rattle.sl_trace.specs.declared.input.Input.TheVariants.{Answer as Told, Wake}
use Rattle.sl_trace.specs.declared.reply.Reply.TheVariants.{Done, IoFault}
use Rattle.std.specs.Prelude.{ℕ, List, None, Option, Some, false, is_some, true, [], ◌≡◌}

-- From H, which holds when the answer was heard, to J; where J holds and I is known, what may still come keeps J.
pub record Concludes (H I J : Step → Type 0) : Type 0 where
  pub finds_none : (x : Step) (number : ℕ) (answer : Answer) → x.input ≡ Told number answer → call_numbered (seen x) number ≡ None → H x → J x
  pub finds_nobody : (x : Step) (number : ℕ) (answer : Answer) (m : Submitted) → x.input ≡ Told number answer → call_numbered (seen x) number ≡ Some m →
      session_numbered x.setting (seen x) m.call.session ≡ None → H x → J x
  pub comes_late : (x : Step) (number : ℕ) (answer : Answer) (m : Submitted) (s : Session) → x.input ≡ Told number answer →
      call_numbered (seen x) number ≡ Some m → session_numbered x.setting (seen x) m.call.session ≡ Some s →
      is_present (seen (with_input Wake x)) s ≡ false → H x → J x
  pub idles : (x : Step) (s : Session) (m : Submitted) (answer : Answer) → Hears x s m answer → IsIdle x s m answer m.call.purpose → H x → J x
  pub joins_on : (x : Step) (s : Session) (j : ℕ) (step : JoinStep) (m : Submitted) (answer : Answer) → Hears x s m answer → m.call.purpose ≡ Joining j step →
      is_running (seen x) j ≡ true → H x →
      J (carry_delta s (next_in_joining (delta_of_session x.setting s) (generation_of (seen x) s) (calls_of (seen x) s) x.reading m step answer) x)
  pub ends_joining : (x : Step) (s : Session) (j : ℕ) (step : JoinStep) (m : Submitted) (answer : Answer) → Hears x s m answer → m.call.purpose ≡ Joining j step →
      is_running (seen x) j ≡ false → H x → J (remove_of_refused s x)
  pub renewed : (x : Step) (s : Session) (m : Submitted) (answer : Answer) → Hears x s m answer → m.call.purpose ≡ Renewal → H x →
      J (carry_delta s (next_after_renewal (is_some (recovery_of x.setting (seen x) s)) m.reading answer) x)
  pub freed : (x : Step) (s : Session) (j : ℕ) (m : Submitted) (answer : Answer) → Hears x s m answer → m.call.purpose ≡ Leaving j → H x →
      J (carry_delta s (next_after_free j m.call.number answer) x)
  pub shown : (x : Step) (s : Session) (m : Submitted) (bytes : List ℕ) → Hears x s m (Read bytes) → m.call.purpose ≡ Survey → is_joined (seen x) s ≡ true →
      begins_by_read (seen x) (recovery_of x.setting (seen x) s) ≡ true → H x → J (signal_and_refuse s None x)
  pub sees : (x : Step) (s : Session) (number : ℕ) (bytes : List ℕ) (at : Spot) (g : Grant) → Has x s → x.input ≡ Told number (Read bytes) → exclusive_on (seen x) s at ≡ Some g → I x →
      J (see_request s g x)
  pub leads_on : (x : Step) (s : Session) (work : Work) (step : LeaseStep) (m : Submitted) (answer : Answer) (aim : Aim) → Hears x s m answer → m.call.purpose ≡ Lease work step →
      goes_on x.setting (seen x) s work ≡ true → aim_of x.setting (seen x) work ≡ Some aim → H x →
      J (carry_lease s (spot_of_call x.setting.layout m) work (next_of_lease x.setting (seen x) s (spot_of_call x.setting.layout m) aim m step answer) x)
  pub fails : (x : Step) (s : Session) (m : Submitted) (j : ℕ) → Hears x s m Failed → lone_job m.call.purpose ≡ Some j → is_running (seen x) j ≡ true → H x →
      J (add_reply j (IoFault m.call.number) x)
  pub has_asked : (x : Step) (s : Session) (m : Submitted) (j : ℕ) (owner : Option ℕ) → Hears x s m Written → m.call.purpose ≡ RequestWrite j owner → is_running (seen x) j ≡ true → H x →
      J (add_reply j Done x)
  pub has_set : (x : Step) (s : Session) (m : Submitted) (j : ℕ) → Hears x s m Written → m.call.purpose ≡ ValueWrite j → is_running (seen x) j ≡ true → H x →
      J (add_reply j (set_reply m) x)
  pub asks : (x : Step) (s : Session) (m : Submitted) (j : ℕ) (bytes : List ℕ) (c : Command) → Hears x s m (Read bytes) → m.call.purpose ≡ RequestRead j → is_running (seen x) j ≡ true →
      command_numbered x.setting (seen x) j ≡ Some c → H x → J (after_request_read s j bytes c x)
  pub tells : (x : Step) (s : Session) (m : Submitted) (j : ℕ) (bytes : List ℕ) → Hears x s m (Read bytes) → m.call.purpose ≡ ValueRead j → is_running (seen x) j ≡ true → H x →
      J (after_value_read j bytes x)
  pub warns : (x : Step) (s : Session) (m : Submitted) (bytes : List ℕ) (g : Grant) (signal : Signal) → Hears x s m (Read bytes) → m.call.purpose ≡ SeeRequest →
      exclusive_on (seen x) s (spot_of_call x.setting.layout m) ≡ Some g → is_orphan g ≡ false → signal_of_request x.setting.layout bytes g ≡ Some signal → H x →
      J (send g.process signal x)
  pub parts : (x : Step) (s : Session) → Has x s → is_joined (seen x) s ≡ true → is_some (recovery_of x.setting (seen x) s) ≡ true → holdings_of (seen x) s ≡ [] →
      has_open_write (seen x) s ≡ false → I x → J (remove_connection s.lockspace x)
  pub frees : (x : Step) (s : Session) → Has x s → is_joined (seen x) s ≡ true → is_some (recovery_of x.setting (seen x) s) ≡ false → holdings_of (seen x) s ≡ [] →
      open_calls_of (seen x) s ≡ [] → I x → J (carry_delta s (next_free (delta_of_session x.setting s) x.reading (delta_known x.setting (seen x) s)) x)
