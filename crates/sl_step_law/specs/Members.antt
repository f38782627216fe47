-- What is known of a member at each moment of a step; and that what every act keeps is kept through the parts of a step.
use Rattle.sl_due.specs.Due.{before_input, due_step}
use Rattle.sl_due.specs.DueInputs.{take_input}
use Rattle.sl_due.specs.DueWake.{is_wake, on_wake}
use Rattle.sl_due.specs.Steps.{Step, begin_step, when}
use Rattle.sl_due_law.specs.LawfulTraces.CarriedFacts.{Kept}
use Rattle.sl_host_state.specs.KeptState.{HostState, MemberState}
use Rattle.sl_host_state.specs.HostStands.{Stands}
use Rattle.sl_host_state.specs.declared.kept_parts.OpenCall.{OpenCall}
use Rattle.sl_step_law.specs.AnswersAwaited.{IsMembersCall}
use Rattle.sl_step_law.specs.ReadyHosts.{InputComes, IsReady}
use Rattle.sl_trace.specs.declared.effects.JoinStep.TheVariants.{FirstRenewal}
use Rattle.sl_trace.specs.declared.effects.Purpose.TheVariants.{Joining}
use Rattle.sl_trace.specs.Traces.{Setting, Trace}
use Rattle.sl_trace.specs.declared.input.Input.{Input}
use Rattle.sl_sector.specs.Records.{Fits}
use Rattle.std.specs.Prelude.{Contains, false, find, is_some, None, true, ℕ, ◌+◌, ◌<◌, ◌==◌, ◌≡◌, ◌≤◌}

-- A member of a host.
pub record MemberIsKnown (h : HostState) (m : MemberState) : Type 0 where
  -- the next session's number is no member's
  pub number : m.who.number < h.born
  -- who has joined has a generation; what it writes next is a record
  pub generation : m.joined ≡ true → 1 ≤ m.known.generation
  pub numbers : m.joined ≡ true → Fits m.known.generation × Fits m.known.seq
  -- as long as a leaving's free isn't written, it can be
  pub left : m.joined ≡ true → is_some m.leaving ≡ true → m.known.freed ≡ false → Fits (m.known.seq + 1)
  -- what is known of it tells whether it is in recovery
  pub known : m.known.recovering ≡ is_some m.renewing.recovery

pub record MembersAreKnown : Type 0 where
  pub each : (i : Input) (h : HostState) (x : Step) (m : MemberState) → Stands i h x → Kept x → Contains h.members m → MemberIsKnown h m
  pub new : (i : Input) (h : HostState) (x : Step) → Stands i h x → Kept x → find (λ m. m.who.number == h.born) h.members ≡ None

-- The parts of a step, one after another.
pub record StepsAreKept : Type 0 where
  pub taken : (now : ℕ) (i : Input) (h : HostState) (st : Setting) (es : Trace) → InputComes now i h st es → Kept (take_input i (before_input (begin_step st es now)))
  pub woken : (now : ℕ) (i : Input) (h : HostState) (st : Setting) (es : Trace) → InputComes now i h st es → Kept (when (is_wake i) on_wake (take_input i (before_input (begin_step st es now))))
  pub whole : (now : ℕ) (i : Input) (h : HostState) (st : Setting) (es : Trace) → InputComes now i h st es → Kept (due_step st es now i)

-- While the first renewal of a joining is unanswered its session has claimed a generation.
abbrev pub JoiningsClaim : Type 0
JoiningsClaim =
    (h : HostState) (x : Step) (number : ℕ) (c : OpenCall) (m : MemberState) (j : ℕ) → IsReady h x → IsMembersCall h number c m → c.purpose ≡ Joining j FirstRenewal → 1 ≤ m.known.generation
