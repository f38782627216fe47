-- The whole of a step: what is asked of its input, and what then stands.
use Rattle.sl_due.specs.Due.{before_input, due}
use Rattle.sl_due.specs.Steps.{Step, begin_step}
use Rattle.sl_host_state.specs.HeardInputs.{begun}
use Rattle.sl_host_state.specs.KeptState.{HostState, MemberState}
use Rattle.sl_host_state.specs.HostStands.{HostStands}
use Rattle.sl_host_state.specs.declared.kept_parts.OpenCall.{OpenCall}
use Rattle.sl_host_law.specs.Steps.LinesFollow.{LineMay}
use Rattle.sl_host_law.specs.Steps.SoundHosts.{IsSound}
use Rattle.sl_host_law.specs.Steps.StepFunction.{before_taking, effects_of, stepped}
use Rattle.sl_host_law.specs.Steps.InputsFollow.{CallsAreTheirs, LeaseMay}
use Rattle.sl_trace.specs.declared.lease.Aim.{Aim}
use Rattle.sl_host_law.specs.Replies.Answers.{FitsCall, IsOpen}
use Rattle.sl_trace.specs.Traces.{FollowsTrace, Setting, Trace}
use Rattle.sl_trace.specs.declared.command.Command.{Command}
use Rattle.sl_trace.specs.declared.effects.Entry.{Entry}
use Rattle.sl_trace.specs.declared.effects.LeaseStep.{LeaseStep}
use Rattle.sl_trace.specs.declared.effects.Purpose.TheVariants.{Lease}
use Rattle.sl_trace.specs.declared.effects.Work.{Work}
use Rattle.sl_trace.specs.declared.input.Input.TheVariants.{Answer as Told, Exit, Line, Number, Spawned, Wake}
use Rattle.sl_trace.specs.declared.input.Input.{Input}
use Rattle.std.specs.Prelude.{Contains, Ok, true, ℕ, ◌==◌, ◌∷◌, ◌≡◌}

-- What is asked of an input, by the host and the step that have come to it.
abbrev pub MayTake : Input → HostState → Step → Type 0
MayTake (Line text) h x = (c : Command) → h.config.read text ≡ Ok c → LineMay h x text c
MayTake (Told n a) h x =
    (c : OpenCall) × IsOpen h n c × FitsCall h.config.layout a c × CallsAreTheirs h
    × ((m : MemberState) (work : Work) (step : LeaseStep) (aim : Aim) → Contains h.members m → (c.session == m.who.number) ≡ true → c.purpose ≡ Lease work step → LeaseMay n c a h x m work step aim)
MayTake (Number text) h x = Unit {0}
MayTake (Exit p) h x = Unit {0}
MayTake (Spawned p ok) h x = Unit {0}
MayTake Wake h x = Unit {0}

-- The entry that the step leaves.
abbrev pub entry_at : Setting → Trace → ℕ → Input → Entry
entry_at st es now i = record { reading = now; input = i; effects = due st es now i }

-- A host that stands for the steps so far, and is sound, takes an input that may come.
pub record StepComes (now : ℕ) (i : Input) (h : HostState) (st : Setting) (es : Trace) : Type 0 where
  pub stands : HostStands h st es
  pub sound : IsSound h
  pub follows : FollowsTrace st es (entry_at st es now i)
  pub may : MayTake i (before_taking (begun now h)) (before_input (begin_step st es now))

-- Then its effects are those that are due, it stands for the longer trace, and is sound.
pub record StepsFollow : Type 0 where
  pub effects : (now : ℕ) (i : Input) (h : HostState) (st : Setting) (es : Trace) → StepComes now i h st es → effects_of now i h ≡ due st es now i
  pub stands : (now : ℕ) (i : Input) (h : HostState) (st : Setting) (es : Trace) → StepComes now i h st es → HostStands (stepped now i h) st (entry_at st es now i ∷ es)
  pub sound : (now : ℕ) (i : Input) (h : HostState) (st : Setting) (es : Trace) → StepComes now i h st es → IsSound (stepped now i h)
