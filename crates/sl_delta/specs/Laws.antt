-- What is kept of an id's sector is enough for every decision, and is what a host keeps of its session.
use Rattle.sl_area.specs.AreaSizes.{Sizes}
use Rattle.sl_delta.specs.DeltaDecisions.{after_join, on_wake}
use Rattle.sl_delta.specs.OwnSector.{OwnState, OwnStands, after_answer, after_call, joining_told, known_with, lease_of, without_calls}
use Rattle.sl_host_state.specs.HeardInputs.{joining_hearing}
use Rattle.sl_host_state.specs.KeptState.{HostState, JoinState}
use Rattle.sl_host_state.specs.declared.kept_parts.OpenCall.{OpenCall}
use Rattle.sl_host_state.specs.MadeEffects.{joining_calling, known_calling}
use Rattle.sl_trace.specs.DeltaDecisions.{next_in_joining, next_on_wake}
use Rattle.sl_trace.specs.Sessions.{delta_written, generation_in, given_number}
use Rattle.sl_trace.specs.declared.session.Session.{Session}
use Rattle.sl_time.specs.Times.{TimingNumbers}
use Rattle.sl_trace.specs.Traces.{Submitted}
use Rattle.sl_trace.specs.declared.effects.JoinStep.{JoinStep}
use Rattle.sl_trace.specs.declared.effects.Purpose.TheVariants.{Joining}
use Rattle.sl_trace.specs.declared.input.Answer.{Answer}
use Rattle.std.specs.Prelude.{Bool, List, None, Option, [], ℕ, ◌≡◌}

-- For every list of calls for which what is kept stands.
pub record KeptIsEnough : Type 0 where
  -- before the first call it stands for none
  pub begins : (s : Session) (tm : TimingNumbers) (z : Sizes) (host : List ℕ) → OwnStands s (without_calls tm z host s.lockspace s.id (given_number s) s.renewed) []
  -- what comes after an answer of a joining
  pub joining : (s : Session) (o : OwnState) (now : ℕ) (m : Submitted) (ms : List Submitted) (step : JoinStep) (answer : Answer) → OwnStands s o ms
      → after_join o now m.call.number m.reading step answer ≡ next_in_joining (lease_of o) (generation_in s ms) ms now m step answer
  -- the answer may be told before or after that is asked
  pub told : (o : OwnState) (now call made : ℕ) (j : ℕ) (step : JoinStep) (answer : Answer)
      → after_join (after_answer (Joining j step) answer now o) now call made step answer ≡ after_join o now call made step answer
  -- what comes by time
  pub wake : (s : Session) (o : OwnState) (now : ℕ) (ms : List Submitted) → OwnStands s o ms → on_wake o now ≡ next_on_wake (lease_of o) now ms

-- A call and an answer, and a host's state.
pub record HostsKeepTheSame : Type 0 where
  pub joining_called : (o : OwnState) (m : Submitted) → m.answer ≡ None
      → joining_calling m o.joining ≡ (after_call m.call.purpose (delta_written m) m.reading o).joining
  pub known_called : (o : OwnState) (m : Submitted) (recovering : Bool) (leaving : Option ℕ)
      → known_calling m (known_with o recovering leaving) ≡ known_with (after_call m.call.purpose (delta_written m) m.reading o) recovering leaving
  pub joining_answered : (h : HostState) (c : OpenCall) (a : Answer) (j : JoinState) → joining_hearing h c a j ≡ joining_told c.purpose a h.reading j
