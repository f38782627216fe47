-- What is told of an event that has come to pass.
use Rattle.sl_world_state.specs.declared.daemon.Most.{Most}
use Rattle.sl_world_state.specs.KeptWorld.{KeptState, MachineState, machine_in}
use Rattle.sl_locks.specs.Replies.{told_as}
use Rattle.sl_locks.specs.declared.line_steps.StepTold.{StepTold}
use Rattle.sl_machine.specs.Machines.{HasTold}
use Rattle.sl_report.specs.Reports.{StepTold as ToldStep}
use Rattle.sl_run.specs.declared.event.Event.TheVariants.{AnswerCall, Crash, Do, DropWrite, ExitOf, GiveAsk, GiveCommand, GiveLvm, Land, Pass, Reset, Restart, Sample, SpawnedOf, StartDaemon, Tear, Test, WakeUp}
use Rattle.sl_run.specs.declared.event.Event.{Event}
use Rattle.sl_run.specs.declared.header.Header.{Header}
use Rattle.sl_text.specs.Forms.{Form}
use Rattle.sl_trace.specs.Traces.{Setting, Trace, no_effects}
use Rattle.sl_trace.specs.declared.command.Command.{Command}
use Rattle.sl_trace.specs.declared.effects.Effects.{Effects}
use Rattle.sl_trace.specs.declared.input.Input.{Input}
use Rattle.sl_world.specs.AllowedEvents.{AllCome}
use Rattle.sl_world.specs.GivenSteps.{IsGiven}
use Rattle.sl_world_law.specs.ToldEvents.{told_in}
use Rattle.std.specs.Prelude.{Bool, List, None, Option, Some, false, true, ℕ, ◌≡◌}

-- Whether nothing is told of an event: it gives no daemon an input, and its machine does nothing of itself.
abbrev pub is_untold : Event → Bool
is_untold (Pass d growths) = true
is_untold (WakeUp m) = false
is_untold (GiveCommand m text) = false
is_untold (GiveLvm m line) = false
is_untold (GiveAsk m) = false
is_untold (Sample m c k) = true
is_untold (Land m c) = true
is_untold (Tear m c k bytes) = true
is_untold (AnswerCall m c ok) = false
is_untold (Do m c) = false
is_untold (DropWrite m c) = true
is_untold (Test m) = true
is_untold (ExitOf m p) = false
is_untold (SpawnedOf m p ok) = false
is_untold (StartDaemon m name) = true
is_untold (Crash m) = true
is_untold (Reset m) = false
is_untold (Restart m) = true

-- What is told then.
abbrev pub nothing_told : StepTold
nothing_told = record { effects = no_effects; line = None }

-- A step as the definitions tell it.
abbrev pub told_view : StepTold → ToldStep
told_view t = record { effects = t.effects; line = told_as t.line }

-- The daemon of machine m took a step at this input, and this is told of it.
pub record GivesTold {D : Type 0} (stands : D → Setting → Trace → Type 0) (makes : D → Most) (k : KeptState) (hosts : List (Option D)) (m : ℕ) (i : Input)
    (after : KeptState) (running : List (Option D)) (told : StepTold) : Type 0 where
  pub effects : Effects
  pub given : IsGiven stands makes k hosts m i after running effects
  pub told_is : (s : MachineState) → machine_in k m ≡ Some s → HasTold told i effects s

-- The event has come to pass with some effects, and this is told of it.
pub record ComesTold {D : Type 0} (commands : Header → List (Form Command)) (stands : D → Setting → Trace → Type 0) (k : KeptState) (hosts : List (Option D)) (e : Event)
    (after : KeptState) (running : List (Option D)) (told : StepTold) : Type 0 where
  pub effects : Effects
  pub comes : AllCome commands stands k hosts e after running effects
  pub told_is : told_view told ≡ told_in k e effects
