-- The whole of a step, of an input that may come.
use Rattle.sl_due_facts.proofs.Acts.StepsKeep.{expected_there}
use Rattle.sl_due.specs.Due.{before_input}
use Rattle.sl_due.specs.Steps.{Step, begin_step}
use Rattle.sl_host_law.proofs.Steps.StepsFollow.{steps_follow}
use Rattle.sl_host_law.specs.Steps.StepFunction.{before_taking}
use Rattle.sl_host_law.specs.Steps.StepsFollow.{MayTake, StepComes}
use Rattle.sl_host_state.specs.HeardInputs.{begun}
use Rattle.sl_host_state.specs.KeptState.{HostState}
use Rattle.sl_words.proofs.Lists.{find_inside}
use Rattle.sl_host_state.specs.declared.kept_parts.OpenCall.{OpenCall}
use Rattle.sl_step_law.proofs.AnswersAreKnown.{answers_are_known}
use Rattle.sl_step_law.proofs.ConversionsMay.{conversions_may}
use Rattle.sl_step_law.proofs.HostsAreReady.{hosts_are_ready}
use Rattle.sl_step_law.proofs.LinesMay.{lines_may}
use Rattle.sl_step_law.specs.ReadyHosts.{InputComes, IsReady}
use Rattle.sl_step_law.specs.StepsAreTaken.{IsPlainInput, MayCome, StepsAreTaken}
use Rattle.sl_trace.specs.Traces.{Setting, Trace, is_expected}
use Rattle.sl_trace.specs.declared.input.Input.TheVariants.{Answer as Told, Exit, Line, Number, Spawned, Wake}
use Rattle.sl_trace.specs.declared.input.Input.{Input}
use Rattle.std.specs.Prelude.{true, ℕ, ◌==◌, ◌≡◌}

takes : (i : Input) (h : HostState) (x : Step) → IsReady h x → is_expected x.setting x.past i ≡ true → IsPlainInput i h x → MayTake i h x
takes (Line text) h x r expected plain = λ c says. lines_may h x text c r says (plain c says)
takes (Told n a) h x r expected plain =
    let c = answers_are_known.open_one h x n a r expected in
    let open_c = find_inside (λ (d : OpenCall). d.number == n) h.unanswered c.0 c.1 in
    let fits = answers_are_known.fits h x c.0 a r open_c.0 c.2 plain in
    (c.0, c.1, fits, answers_are_known.theirs h x r, λ m work step aim there its is. conversions_may h x n c.0 a m work step r c.1 fits there its is aim)
takes (Number text) h x r expected plain = tt
takes (Exit p) h x r expected plain = tt
takes (Spawned p ok) h x r expected plain = tt
takes Wake h x r expected plain = tt

expected_at : (now : ℕ) (i : Input) (h : HostState) (st : Setting) (es : Trace) → InputComes now i h st es
    → is_expected (before_input (begin_step st es now)).setting (before_input (begin_step st es now)).past i ≡ true
unfolding before_input
expected_at now i h st es c = expected_there st es now i c.follows.expected

comes : (now : ℕ) (i : Input) (h : HostState) (st : Setting) (es : Trace) → MayCome now i h st es → StepComes now i h st es
comes now i h st es c =
    record {
      stands = c.0.stands;
      sound = c.0.sound;
      follows = c.0.follows;
      may = takes i (before_taking (begun now h)) (before_input (begin_step st es now)) (hosts_are_ready now i h st es c.0) (expected_at now i h st es c.0) c.1;
    }

pub steps_are_taken : StepsAreTaken
steps_are_taken =
    record {
      comes = comes;
      effects = λ now i h st es c. steps_follow.effects now i h st es (comes now i h st es c);
      stands = λ now i h st es c. steps_follow.stands now i h st es (comes now i h st es c);
      sound = λ now i h st es c. steps_follow.sound now i h st es (comes now i h st es c);
    }
