-- What is told of a daemon's step, or of what the machine does itself, is what the definitions tell of the event.
use Rattle.sl_world_state.specs.declared.daemon.Most.{Most}
use Rattle.sl_world_state.specs.Changes.{first_kept}
use Rattle.sl_world_state.specs.Inputs.{input_for, input_in}
use Rattle.sl_world_state.specs.KeptWorld.{KeptState, MachineState, machine_in}
use Rattle.sl_world_state.specs.Refusals.{refusal_in}
use Rattle.sl_locks.specs.Steps.{lock_input}
use Rattle.sl_locks.specs.declared.line_steps.LockInput.{LockInput}
use Rattle.sl_locks.specs.declared.line_steps.StepTold.{StepTold}
use Rattle.sl_machine.proofs.PartsHeard.{locks_hear_their_part}
use Rattle.sl_machine.specs.HeardInputs.{IsLockInput, heard_by_locks}
use Rattle.sl_machine.specs.Machines.{HasTold, told_by}
use Rattle.sl_report.specs.Reports.{StepTold as ToldStep}
use Rattle.sl_run.specs.Inputs.{machine_of}
use Rattle.sl_run.specs.Locks.{Locks, Told as LineTold, locks_after, told_effects}
use Rattle.sl_run.specs.declared.event.Event.TheVariants.{ExitOf}
use Rattle.sl_run.specs.declared.event.Event.{Event}
use Rattle.sl_run.specs.declared.header.Header.{Header}
use Rattle.sl_text.specs.Forms.{Form}
use Rattle.sl_trace.specs.Traces.{Setting, Trace}
use Rattle.sl_trace.specs.declared.command.Command.{Command}
use Rattle.sl_trace.specs.declared.effects.Effects.{Effects}
use Rattle.sl_trace.specs.declared.input.Input.TheVariants.{Answer as Answered, Exit, Line, Number, Spawned, Wake}
use Rattle.sl_trace.specs.declared.input.Input.{Input}
use Rattle.sl_world.proofs.AllowedEvents.{simply_comes}
use Rattle.sl_world.specs.AllowedEvents.{AllCome, IsAllowed}
use Rattle.sl_world.specs.GivenSteps.{IsGiven}
use Rattle.sl_world.specs.ToldEvents.{ComesTold, GivesTold, told_view}
use Rattle.sl_words.proofs.CaseLaws.{none_some}
use Rattle.sl_words.specs.Words.{choose}
use Rattle.sl_world_law.specs.ToldEvents.{told_in, told_of}
use Rattle.std.proofs.Common.{List, None, Option, Some, ap, ap₂, false, refl, sym, ℕ, ◌≡◌, ◌∙◌}
use Rattle.std.specs.Option.{option_map_or}
use Rattle.std.specs.Prelude.{option_and_then}

-- ---- the locks' part of an input

pub heard_part : (i : Input) (l : LockInput) → lock_input l ≡ heard_by_locks i → IsLockInput l i
heard_part i l is number fx k = sym (locks_hear_their_part number i fx k) ∙ ap (λ j. locks_after number j fx k) (sym is)

effects_hear : (number : ℕ) (i : Input) (fx : Effects) (k : Locks) → told_effects number (heard_by_locks i) fx k ≡ told_effects number i fx k
unfolding told_effects
effects_hear number (Line text) fx k = refl
effects_hear number (Number text) fx k = refl
effects_hear number (Exit p) fx k = refl
effects_hear number (Answered n a) fx k = refl
effects_hear number Wake fx k = refl
effects_hear number (Spawned p ok) fx k = refl

pub heard_told : (told : StepTold) (i : Input) (l : LockInput) (fx : Effects) (s : MachineState) → lock_input l ≡ heard_by_locks i → HasTold told (lock_input l) fx s → HasTold told i fx s
heard_told told i l fx s is has =
    record {
      effects = has.effects ∙ ap (λ j. told_effects s.next.job j fx s.locks) is ∙ effects_hear s.next.job i fx s.locks;
      line = has.line ∙ ap (λ j. told_by j fx s) is ∙ ap (λ (x : Locks × LineTold). x.1) (locks_hear_their_part s.next.job i fx s.locks);
    }

-- ---- an event's step

abbrev as_told : Effects → LineTold → ToldStep
as_told fx line = record { effects = fx; line = line }

tells_at : (k : KeptState) (e : Event) (i : Input) (told : StepTold) (fx : Effects) (o : Option MachineState) → machine_in k (machine_of e) ≡ o
    → option_and_then (input_for k e) o ≡ Some i → ((s : MachineState) → machine_in k (machine_of e) ≡ Some s → HasTold told i fx s)
    → told_view told ≡ option_map_or (told_of (option_and_then (input_for k e) o) fx) o (as_told fx None)
tells_at k e i told fx None at gives has = absurd (none_some i gives)
tells_at k e i told fx (Some s) at gives has =
    let h = has s at in
    ap₂ as_told h.effects h.line ∙ ap (λ o. told_of o fx s) (sym gives)

pub tells_step : (k : KeptState) (e : Event) (i : Input) (told : StepTold) (fx : Effects) → input_in k e ≡ Some i
    → ((s : MachineState) → machine_in k (machine_of e) ≡ Some s → HasTold told i fx s) → told_view told ≡ told_in k e fx
tells_step k e i told fx gives has = tells_at k e i told fx (machine_in k (machine_of e)) refl gives has

own_at : (e : Event) (fx : Effects) (input : Option Input) (o : Option MachineState) → input ≡ None → as_told fx None ≡ option_map_or (told_of input fx) o (as_told fx None)
own_at e fx input None is = refl
own_at e fx input (Some s) is = ap (λ x. told_of x fx s) (sym is)

-- Where no daemon takes the event.
pub tells_own : (k : KeptState) (e : Event) (told : StepTold) (fx : Effects) → input_in k e ≡ None → told_view told ≡ as_told fx None → told_view told ≡ told_in k e fx
tells_own k e told fx none is = is ∙ own_at e fx (input_in k e) (machine_in k (machine_of e)) none

pub own_told : {D : Type 0} (commands : Header → List (Form Command)) (stands : D → Setting → Trace → Type 0) (k : KeptState) (hosts : List (Option D)) (e : Event) (fx : Effects)
    (after : KeptState) (running : List (Option D)) (told : StepTold) → AllCome commands stands k hosts e after running fx → input_in k e ≡ None
    → told_view told ≡ as_told fx None → ComesTold commands stands k hosts e after running told
own_told commands stands k hosts e fx after running told comes none is = record { effects = fx; comes = comes; told_is = tells_own k e told fx none is }

pub simply_told : {D : Type 0} (commands : Header → List (Form Command)) (stands : D → Setting → Trace → Type 0) (makes : D → Most) (k : KeptState) (hosts : List (Option D)) (e : Event)
    (i : Input) (told : StepTold) (after : KeptState) (running : List (Option D)) → IsAllowed commands stands k hosts e → (refusal_in commands k e ≡ None → input_in k e ≡ Some i)
    → first_kept e k ≡ k → GivesTold stands makes k hosts (machine_of e) i after running told → ComesTold commands stands k hosts e after running told
simply_told commands stands makes k hosts e i told after running a gives first g =
    record {
      effects = g.effects;
      comes = simply_comes commands stands makes k hosts e i g.effects after running a gives first g.given;
      told_is = tells_step k e i told g.effects (gives a.unrefused) g.told_is;
    }

-- The same where more is done than the step.
pub told_comes : {D : Type 0} (commands : Header → List (Form Command)) (stands : D → Setting → Trace → Type 0) (makes : D → Most) (k : KeptState) (hosts : List (Option D)) (e : Event)
    (i : Input) (told : StepTold) (after later : KeptState) (running : List (Option D)) → input_in k e ≡ Some i
    → GivesTold stands makes k hosts (machine_of e) i after running told
    → ((fx : Effects) → IsGiven stands makes k hosts (machine_of e) i after running fx → AllCome commands stands k hosts e later running fx)
    → ComesTold commands stands k hosts e later running told
told_comes commands stands makes k hosts e i told after later running gives g come =
    record { effects = g.effects; comes = come g.effects g.given; told_is = tells_step k e i told g.effects gives g.told_is }

-- A process ends where no daemon runs.
pub exit_silent : (k : KeptState) (m p : ℕ) (s : MachineState) → machine_in k m ≡ Some s → s.runs ≡ false → input_in k (ExitOf m p) ≡ None
exit_silent k m p s at off = ap (option_and_then (input_for k (ExitOf m p))) at ∙ ap (λ b. choose b (Exit p)) off

-- What a step has told is that of the machine before room was taken.
pub step_told : (told : StepTold) (i : Input) (l : LockInput) (fx : Effects) (k after : KeptState) (m : ℕ) → after ≡ k → lock_input l ≡ heard_by_locks i
    → ((s : MachineState) → machine_in after m ≡ Some s → HasTold told (lock_input l) fx s) → (s : MachineState) → machine_in k m ≡ Some s → HasTold told i fx s
step_told told i l fx k after m same is has s at = heard_told told i l fx s is (has s (ap (λ z. machine_in z m) same ∙ at))
