-- A host as a daemon: it begins, tells what may come, and steps.
use Rattle.sl_area.specs.AreaSizes.{layout_of}
use Rattle.sl_world_state.specs.Daemons.{IsNumbered, IsStep, MayCome, begun_with, entry_of}
use Rattle.sl_world_state.specs.declared.daemon.Site.{Site}
use Rattle.sl_host_state.specs.KeptState.{Made, state_of}
use Rattle.sl_host_state.specs.NewHost.{IsOfProgram, new_host}
use Rattle.sl_host_step.proofs.ExpectedInputs.{expected_is as expected_by_kept}
use Rattle.sl_host_step.proofs.ServesOn.{are_numbered, calls_sound, keeps_on}
use Rattle.sl_host_step.specs.ExpectedInputs.{expected_in}
use Rattle.sl_host_step.specs.Moments.{HasStepped, StepComes}
use Rattle.sl_host_step.specs.StepMemory.{most_of}
use Rattle.sl_host_step.specs.HostServes.{Serves, whole_commands}
use Rattle.sl_run.specs.Lawful.{IsGiven, IsSetting}
use Rattle.sl_run.specs.Headers.{IsHeader}
use Rattle.sl_run.specs.declared.header.Header.{Header}
use Rattle.sl_host_law.specs.Steps.SoundHosts.{IsSound}
use Rattle.sl_host_state.specs.HostStands.{HostStands}
use Rattle.sl_trace.specs.CommandForms.{command_in, forms}
use Rattle.sl_step_law.proofs.HostsBegin.{hosts_begin}
use Rattle.sl_step_law.specs.LastValues.{IsByteInput}
use Rattle.sl_trace.specs.Traces.{Setting, Trace, is_expected}
use Rattle.sl_trace.specs.declared.command.Command.{Command}
use Rattle.sl_trace.specs.declared.effects.Effects.{Effects}
use Rattle.sl_trace.specs.declared.input.Given.{Given}
use Rattle.sl_trace.specs.declared.input.Input.{Input}
use Rattle.sl_host.specs.BookQuestions.{state_in}
use Rattle.sl_host.specs.NewHosts.{MayBeGiven, setting_begun}
use Rattle.sl_host.specs.Host.{HostView}
use Rattle.std.proofs.Common.{ap, refl, subst, sym}
use Rattle.std.specs.List.{AllByRecursion}
use Rattle.std.specs.Prelude.{Err, IfOk, List, Ok, OnErr, Result, [], ℕ, ◌∷◌, ◌≡◌, ◌≤◌}

-- ---- it begins

pub may_be_given : (h : Header) (s : Site) → IsSetting (begun_with whole_commands h s) → AllByRecursion (MayBeGiven h.geometry) s.given
may_be_given h s is = by s.given is.each where
  by : (gs : List Given) → AllByRecursion (IsGiven (begun_with whole_commands h s)) gs → AllByRecursion (MayBeGiven h.geometry) gs
  by [] each = tt
  by (g ∷ gs) each = (record { id = each.0.id; renewed = each.0.renewed; lockspace = each.0.lockspace }, by gs each.1)

pub begins_serving : (h : Header) (s : Site) (v : HostView) → IsHeader h → IsSetting (begun_with whole_commands h s)
    → ((read : List ℕ → Result Command ℕ) → state_of read v.kept
    ≡ new_host (setting_begun (record { timing = h.timing; grace = h.grace; sizes = h.geometry; machine = s.machine; name = s.name }) s.first s.given read))
    → v.kept.config ≡ record { timing = h.timing; grace = h.grace; sizes = h.geometry; machine = s.machine; name = s.name } → Serves v (begun_with whole_commands h s) []
begins_serving h s v header is state config =
    let st : Setting = begun_with whole_commands h s in
    let program : IsOfProgram st.layout = refl in
    record {
      setting = is;
      reads = λ text. subst (λ (m : Made). st.read text ≡ command_in (forms (layout_of m.sizes)) text) (sym config) refl;
      stands = subst (λ g. HostStands g st []) (sym (state st.read)) (hosts_begin.stands st is program);
      sound = subst IsSound (sym (state st.read)) (hosts_begin.sound st is program);
      grace = subst (λ (m : Made). m.grace ≤ 600000) (sym config) header.grace;
    }

-- ---- what may come

pub expected_of : (v : HostView) (st : Setting) (es : Trace) (i : Input) → Serves v st es → expected_in (state_in v.kept) i ≡ is_expected st es i
expected_of v st es i serves = expected_by_kept (state_of st.read v.kept) st es i serves.stands

-- ---- a step

pub steps : (now : ℕ) (i : Input) (old new : HostView) (fx : Effects) (st : Setting) (es : Trace) → Serves old st es → MayCome st es now i → IsByteInput i → HasStepped now i old new fx
    → Serves new st (entry_of now i fx ∷ es) × IsNumbered st es fx
steps now i old new fx st es serves may bytes stepped =
    (keeps_on now i old.kept new.kept fx st es serves may bytes stepped.over, are_numbered now i old.kept new.kept fx st es serves may bytes stepped.over)

pub is_step : (now : ℕ) (i : Input) (old new : HostView) (fx : Effects) (st : Setting) (es : Trace) → Serves old st es → MayCome st es now i → IsByteInput i → HasStepped now i old new fx
    → IsStep st (most_of old) fx
is_step now i old new fx st es serves may bytes stepped =
    record {
      ends = stepped.few.of_ends;
      signals = stepped.few.of_signals;
      moves = stepped.few.of_moves;
      grants = stepped.few.of_grants;
      starts = stepped.few.of_starts;
      replies = stepped.few.of_replies;
      few = stepped.few.of_calls;
      calls = λ c there. calls_sound now i old.kept new.kept fx st es serves may bytes stepped.over c there;
    }

-- So of what a step gives, where it gives effects.
pub comes_so : (now : ℕ) (i : Input) (k : HostView) (st : Setting) (es : Trace) → Serves k st es → MayCome st es now i → IsByteInput i → StepComes now i k.kept
comes_so now i k st es serves may bytes = record { setting = st; past = es; keeps = serves; may = may; bytes = bytes }

pub steps_so : {E : Type 0} (now : ℕ) (i : Input) (old new : HostView) (r : Result Effects E) (st : Setting) (es : Trace) → IsByteInput i → IfOk r (λ fx. HasStepped now i old new fx) → Serves old st es
    → MayCome st es now i → IfOk r (λ fx. Serves new st (entry_of now i fx ∷ es) × IsNumbered st es fx)
steps_so now i old new (Ok fx) st es bytes is serves may = steps now i old new fx st es serves may bytes is
steps_so now i old new (Err e) st es bytes is serves may = tt

pub is_step_so : {E : Type 0} (now : ℕ) (i : Input) (old new : HostView) (r : Result Effects E) (st : Setting) (es : Trace) → IsByteInput i → IfOk r (λ fx. HasStepped now i old new fx) → Serves old st es
    → MayCome st es now i → IfOk r (IsStep st (most_of old))
is_step_so now i old new (Ok fx) st es bytes is serves may = is_step now i old new fx st es serves may bytes is
is_step_so now i old new (Err e) st es bytes is serves may = tt

pub sizes_so : {E : Type 0} (now : ℕ) (i : Input) (old new : HostView) (r : Result Effects E) → IfOk r (λ fx. HasStepped now i old new fx) → OnErr r (new ≡ old) → new.kept.config ≡ old.kept.config
sizes_so now i old new (Ok fx) is same = is.over.config
sizes_so now i old new (Err e) is same = ap (λ (v : HostView). v.kept.config) same
