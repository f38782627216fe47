-- A step that may come, as the laws of a host's step ask of it: at its input the host is ready, and at the end of what it makes due it has come to a
-- moment of which all is known.
use Rattle.sl_due_facts.proofs.Acts.StepsKeep.{expected_there}
use Rattle.sl_area.specs.AreaSizes.{layout_of}
use Rattle.sl_due.specs.Due.{before_input, due_step}
use Rattle.sl_due.specs.DueWake.{is_wake, on_wake}
use Rattle.sl_due.specs.Steps.{Step, begin_step, when}
use Rattle.sl_host_state.specs.KeptState.{HostKept, HostState, Made, state_of}
use Rattle.sl_host_step.specs.Moments.{AllDone, AtEnd, AtInput, StepComes}
use Rattle.sl_host_step.specs.HostServes.{ReadsWhole}
use Rattle.sl_step_law.proofs.DueFollows.{inputs_come}
use Rattle.sl_step_law.proofs.HostsAreReady.{hosts_are_ready}
use Rattle.sl_step_law.proofs.LastValues.{steps_are_taken_plainly}
use Rattle.sl_step_law.proofs.MomentsAreKnown.{moments_are_known}
use Rattle.sl_step_law.specs.LastValues.{ComesPlainly, IsByteInput}
use Rattle.sl_step_law.specs.Moments.{IsMoment, taken_step}
use Rattle.sl_step_law.specs.ReadyHosts.{InputComes, IsReady}
use Rattle.sl_trace.specs.CommandForms.{command_in, forms}
use Rattle.sl_trace.specs.Traces.{Setting, Trace, is_expected}
use Rattle.sl_trace.specs.declared.command.Command.{Command}
use Rattle.sl_trace.specs.declared.input.Input.TheVariants.{Wake}
use Rattle.sl_trace.specs.declared.input.Input.{Input}
use Rattle.std.proofs.Common.{ap, subst, sym, ◌∙◌}
use Rattle.std.specs.Prelude.{List, Result, true, ℕ, ◌≡◌}

-- The step comes to the state that is kept.
pub comes_plainly : (now : ℕ) (i : Input) (k : HostKept) (c : StepComes now i k) → ComesPlainly now i (state_of c.setting.read k) c.setting c.past
comes_plainly now i k c =
    record {
      comes = inputs_come now i (state_of c.setting.read k) c.setting c.past c.keeps.setting c.keeps.stands c.keeps.sound c.may.time c.may.below c.may.expected;
      bytes = c.bytes;
    }

-- ---- at its input

pub record IsAtInput (now : ℕ) (i : Input) (k : HostKept) : Type 0 where
  pub read : List ℕ → Result Command ℕ
  pub whole : ReadsWhole k read
  pub step : Step
  pub ready : IsReady (state_of read k) step
  pub expected : is_expected step.setting step.past i ≡ true
  pub bytes : IsByteInput i

pub expected_at : (now : ℕ) (i : Input) (h : HostState) (st : Setting) (es : Trace) → InputComes now i h st es
    → is_expected (before_input (begin_step st es now)).setting (before_input (begin_step st es now)).past i ≡ true
unfolding before_input
expected_at now i h st es c = expected_there st es now i c.follows.expected

pub at_input : (now : ℕ) (i : Input) (first k : HostKept) → AtInput now i first k → IsAtInput now i k
at_input now i first k a =
    let c = a.comes in
    let plainly = comes_plainly now i first c in
    let h : HostState = state_of c.setting.read first in
    record {
      read = c.setting.read;
      whole = λ text. c.keeps.reads text ∙ ap (λ (m : Made). command_in (forms (layout_of m.sizes)) text) (sym a.same);
      step = before_input (begin_step c.setting c.past now);
      ready = subst (λ g. IsReady g (before_input (begin_step c.setting c.past now))) (sym (a.is c.setting.read c.keeps.reads)) (hosts_are_ready now i h c.setting c.past plainly.comes);
      expected = expected_at now i h c.setting c.past plainly.comes;
      bytes = c.bytes;
    }

-- ---- any moment

-- A moment of a step at which a part of it begins: all is known that holds of each.
pub record IsSomeMoment (k : HostKept) : Type 0 where
  pub input : Input
  pub read : List ℕ → Result Command ℕ
  pub step : Step
  pub moment : IsMoment input (state_of read k) step

pub moment_at_input : (now : ℕ) (i : Input) (first k : HostKept) → AtInput now i first k → IsSomeMoment k
moment_at_input now i first k a =
    let r = at_input now i first k a in record { input = Wake; read = r.read; step = r.step; moment = moments_are_known.ready (state_of r.read k) r.step r.ready }

pub moment_at_end : (now : ℕ) (i : Input) (first k : HostKept) → AtEnd now i first k → IsSomeMoment k
moment_at_end now i first k a =
    let c = a.comes in
    let h : HostState = state_of c.setting.read first in
    let may = steps_are_taken_plainly.may now i h c.setting c.past (comes_plainly now i first c) in
    let x : Step = when (is_wake i) on_wake (taken_step now i c.setting c.past) in
    record {
      input = i;
      read = c.setting.read;
      step = x;
      moment = subst (λ g. IsMoment i g x) (sym (a.is c.setting.read c.keeps.reads)) (moments_are_known.woken now i h c.setting c.past may);
    }

pub moment_when_done : (now : ℕ) (i : Input) (first k : HostKept) → AllDone now i first k → IsSomeMoment k
moment_when_done now i first k a =
    let c = a.comes in
    let h : HostState = state_of c.setting.read first in
    let may = steps_are_taken_plainly.may now i h c.setting c.past (comes_plainly now i first c) in
    record {
      input = i;
      read = c.setting.read;
      step = due_step c.setting c.past now i;
      moment = subst (λ g. IsMoment i g (due_step c.setting c.past now i)) (sym (a.is c.setting.read c.keeps.reads)) (moments_are_known.ended now i h c.setting c.past may);
    }
