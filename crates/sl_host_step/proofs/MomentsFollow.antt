-- From moment to moment: each part of a step, as code does it, brings what is kept to the next one.
use Rattle.sl_host_law.specs.StepParts.Ends.{finishing}
use Rattle.sl_host_law.specs.StepParts.Exits.{exiting}
use Rattle.sl_host_law.specs.Steps.Answers.{answering}
use Rattle.sl_host_law.specs.Steps.Inputs.{starting, taking}
use Rattle.sl_host_law.specs.Steps.LineSteps.{lining}
use Rattle.sl_host_law.specs.Steps.Passes.{for_members}
use Rattle.sl_host_law.specs.Steps.StepFunction.{before_taking, stepped}
use Rattle.sl_host_law.specs.Steps.WakePasses.{waking}
use Rattle.sl_host_state.specs.HeardInputs.{begun, heard_exit, heard_number, quiet_to, rested}
use Rattle.sl_host_state.specs.HostStands.{IsQuiet}
use Rattle.sl_host_step.proofs.StepsMayCome.{moment_when_done}
use Rattle.sl_trace.specs.declared.effects.Effects.{Effects}
use Rattle.sl_host.specs.BookQuestions.{state_in}
use Rattle.sl_host_state.specs.KeptState.{HostKept, HostState, state_of}
use Rattle.sl_host_step.specs.Moments.{AllDone, AtEnd, AtInput, HasCome, IsCalmed, IsOver, StepComes, made_due}
use Rattle.sl_trace.specs.CommandForms.{command_in, forms}
use Rattle.sl_area.specs.AreaSizes.{layout_of}
use Rattle.sl_trace.specs.declared.command.Command.{Command}
use Rattle.sl_trace.specs.declared.input.Answer.{Answer}
use Rattle.sl_trace.specs.declared.input.Input.TheVariants.{Answer as Told, Exit, Line, Number, Spawned, Wake}
use Rattle.sl_trace.specs.declared.input.Input.{Input}
use Rattle.sl_host.specs.Host.{Becomes, HostView, SameRun}
use Rattle.std.proofs.Common.{ap, refl, subst, sym, ◌∙◌}
use Rattle.std.specs.Prelude.{Bool, Err, List, Result, ℕ, ◌≡◌}

pub begins : (now : ℕ) (i : Input) (old new : HostView) → StepComes now i old.kept → Becomes old new (λ h. before_taking (begun now h)) → new.kept.config ≡ old.kept.config → new.kept.reading ≡ now
    → AtInput now i old.kept new.kept
begins now i old new comes state same reading = record { comes = comes; same = same; reading = reading; is = λ read whole. state read }

-- A part that is the same however lines are read, and one that is so where they are read as they are.
goes_on : (now : ℕ) (i : Input) (f g : HostState → HostState) (first : HostKept) (old new : HostView) → HasCome now i f first old.kept → Becomes old new g → SameRun old new
    → HasCome now i (λ h. g (f h)) first new.kept
goes_on now i f g first old new a state same =
    record { comes = a.comes; same = same.0 ∙ a.same; reading = same.1 ∙ a.reading; is = λ read whole. state read ∙ ap g (a.is read whole) }

pub exit_ends : (now p : ℕ) (first : HostKept) (old new : HostView) → AtInput now (Exit p) first old.kept → Becomes old new (λ h. exiting p (heard_exit p h)) → SameRun old new
    → AtEnd now (Exit p) first new.kept
exit_ends now p first old new a state same = goes_on now (Exit p) (λ h. before_taking (begun now h)) (λ h. exiting p (heard_exit p h)) first old new a state same

pub start_ends : (now p : ℕ) (ok : Bool) (first : HostKept) (old new : HostView) → AtInput now (Spawned p ok) first old.kept → Becomes old new (starting p ok) → SameRun old new
    → AtEnd now (Spawned p ok) first new.kept
start_ends now p ok first old new a state same = goes_on now (Spawned p ok) (λ h. before_taking (begun now h)) (starting p ok) first old new a state same

pub number_ends : (now : ℕ) (text : List ℕ) (first : HostKept) (old new : HostView) → AtInput now (Number text) first old.kept → Becomes old new heard_number → SameRun old new
    → AtEnd now (Number text) first new.kept
number_ends now text first old new a state same = goes_on now (Number text) (λ h. before_taking (begun now h)) heard_number first old new a state same

pub wake_ends : (now : ℕ) (first : HostKept) (old new : HostView) → AtInput now Wake first old.kept → Becomes old new waking → SameRun old new → AtEnd now Wake first new.kept
wake_ends now first old new a state same = goes_on now Wake (λ h. before_taking (begun now h)) waking first old new a state same

pub answer_ends : (now number : ℕ) (a : Answer) (first : HostKept) (old new : HostView) → AtInput now (Told number a) first old.kept → Becomes old new (answering number a) → SameRun old new
    → AtEnd now (Told number a) first new.kept
answer_ends now number told first old new a state same = goes_on now (Told number told) (λ h. before_taking (begun now h)) (answering number told) first old new a state same

-- A line, as it was read.
pub line_ends : (now : ℕ) (text : List ℕ) (r : Result Command ℕ) (first : HostKept) (old new : HostView) → command_in (forms (layout_of first.config.sizes)) text ≡ r
    → AtInput now (Line text) first old.kept → Becomes old new (lining r) → SameRun old new → AtEnd now (Line text) first new.kept
line_ends now text r first old new says a state same =
    record {
      comes = a.comes;
      same = same.0 ∙ a.same;
      reading = same.1 ∙ a.reading;
      is = λ read whole. state read ∙ ap (λ z. lining z (state_of read old.kept)) (sym says ∙ sym (whole text)) ∙ ap (taking (Line text)) (a.is read whole);
    }

pub finish_ends : (now : ℕ) (i : Input) (first : HostKept) (old new : HostView) → AtEnd now i first old.kept → Becomes old new (for_members finishing) → SameRun old new → AllDone now i first new.kept
finish_ends now i first old new a state same = goes_on now i (λ h. made_due i (before_taking (begun now h))) (for_members finishing) first old new a state same

-- ---- a step is over

-- Nothing more is known, or all is worked out anew.
pub stays_calm : (now : ℕ) (i : Input) (first k : HostKept) → AllDone now i first k → IsCalmed k k
stays_calm now i first k a =
    record { config = refl; state = λ read. refl; quiet = (let m = moment_when_done now i first k a in m.moment.stands.quiet) }

pub grows_calm : (q : ℕ) (old new : HostView) → Becomes old new (quiet_to q) → SameRun old new → IsQuiet (state_in new.kept) → IsCalmed old.kept new.kept
grows_calm q old new state same quiet =
    record {
      config = same.0;
      state = λ read. state read ∙ ap (λ n. quiet_to n (state_of read old.kept)) (sym (ap (λ (h : HostState). h.quiet_until) (state read)));
      quiet = quiet;
    }

pub rests : (now : ℕ) (i : Input) (first k : HostKept) (fx : Effects) (old new : HostView) → AllDone now i first k → IsCalmed k old.kept → fx ≡ old.kept.made → Becomes old new rested → new.kept.config ≡ old.kept.config
    → IsOver now i first new.kept fx
rests now i first k fx old new done calm made state same =
    record {
      effects = λ read whole. made ∙ ap (λ (h : HostState). h.made) (calm.state read) ∙ ap (λ (h : HostState). h.made) (done.is read whole);
      config = same ∙ calm.config ∙ done.same;
      state = λ read whole.
          state read
          ∙ ap rested (calm.state read)
          ∙ ap (λ h. quiet_to old.kept.quiet_until (rested h)) (done.is read whole)
          ∙ ap (λ n. quiet_to n (stepped now i (state_of read first))) (sym (ap (λ (h : HostState). h.quiet_until) (state read)));
      quiet = subst IsQuiet (sym (state (λ text. Err 0))) calm.quiet;
    }
