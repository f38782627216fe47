-- A step that was taken leaves a host that serves, with effects as a world asks.
use Rattle.sl_world_state.specs.Daemons.{IsNumbered, IsSoundCall, MayCome, entry_of}
use Rattle.sl_due.specs.Due.{due}
use Rattle.sl_host_law.specs.Steps.SoundHosts.{IsSound}
use Rattle.sl_host_law.specs.Steps.StepFunction.{stepped}
use Rattle.sl_host_law.specs.Steps.StepsFollow.{entry_at}
use Rattle.sl_host_state.specs.HeardInputs.{quiet_to}
use Rattle.sl_host_state.specs.KeptState.{HostKept, HostState, Made, state_of}
use Rattle.sl_host_state.specs.HostStands.{HostStands, IsQuiet, Keeps}
use Rattle.sl_host_step.proofs.StepsMayCome.{comes_plainly}
use Rattle.sl_host_step.specs.Moments.{IsOver, StepComes}
use Rattle.sl_host_step.specs.HostServes.{Keeping}
use Rattle.sl_step_law.proofs.EffectsAreSound.{effects_are_sound}
use Rattle.sl_step_law.proofs.LastValues.{steps_are_taken_plainly}
use Rattle.sl_step_law.specs.LastValues.{IsByteInput}
use Rattle.sl_trace.specs.CommandForms.{command_in, forms}
use Rattle.sl_area.specs.AreaSizes.{layout_of}
use Rattle.sl_trace.specs.Traces.{Setting, Trace}
use Rattle.sl_trace.specs.declared.effects.Call.{Call}
use Rattle.sl_trace.specs.declared.effects.Effects.{Effects}
use Rattle.sl_trace.specs.declared.input.Input.{Input}
use Rattle.std.proofs.Common.{ap, subst, sym, ◌∙◌}
use Rattle.std.specs.Prelude.{Contains, ℕ, ◌∷◌, ◌≡◌, ◌≤◌}

-- ---- a host that knows for longer that nothing is due

keeps_calm : (q : ℕ) (h : HostState) (st : Setting) (es : Trace) → Keeps h st es → Keeps (quiet_to q h) st es
keeps_calm q h st es k =
    record {
      config = k.config;
      entries = k.entries;
      calls = k.calls;
      lines = k.lines;
      replied = k.replied;
      started = k.started;
      born = k.born;
      numbered = k.numbered;
      counted = k.counted;
      present = k.present;
      members = k.members;
      connected = k.connected;
      unanswered = k.unanswered;
      single = k.single;
      owned = k.owned;
      jobs = k.jobs;
      holdings = k.holdings;
      children = k.children;
      programs = k.programs;
    }

stands_calm : (q : ℕ) (h : HostState) (st : Setting) (es : Trace) → HostStands h st es → IsQuiet (quiet_to q h) → HostStands (quiet_to q h) st es
stands_calm q h st es s quiet = record { past = s.past; reading = s.reading; made = s.made; keeps = keeps_calm q h st es s.keeps; quiet = quiet }

sound_calm : (q : ℕ) (h : HostState) → IsSound h → IsSound (quiet_to q h)
sound_calm q h s =
    record {
      names = s.names;
      leavings = record { calls = s.leavings.calls; apart = s.leavings.apart; others = s.leavings.others };
      joinings = record { calls = s.joinings.calls; apart = s.joinings.apart };
      laid = record { program = s.laid.program; geometry = s.laid.geometry; ids = s.laid.ids; joins = s.laid.joins };
    }

-- ---- behind the step

-- It is one that may come to what is kept, for this trace.
abbrev step_comes : (now : ℕ) (i : Input) (k : HostKept) (st : Setting) (es : Trace) → Keeping k st es → MayCome st es now i → IsByteInput i → StepComes now i k
step_comes now i k st es keeps may bytes = record { setting = st; past = es; keeps = keeps; may = may; bytes = bytes }

pub effects_are : (now : ℕ) (i : Input) (k new : HostKept) (fx : Effects) (st : Setting) (es : Trace) → Keeping k st es → MayCome st es now i → IsByteInput i → IsOver now i k new fx
    → fx ≡ due st es now i
effects_are now i k new fx st es keeps may bytes over =
    over.effects st.read keeps.reads ∙ steps_are_taken_plainly.effects now i (state_of st.read k) st es (comes_plainly now i k (step_comes now i k st es keeps may bytes))

pub keeps_on : (now : ℕ) (i : Input) (k new : HostKept) (fx : Effects) (st : Setting) (es : Trace) → Keeping k st es → MayCome st es now i → IsByteInput i → IsOver now i k new fx
    → Keeping new st (entry_of now i fx ∷ es)
keeps_on now i k new fx st es keeps may bytes over =
    let plainly = comes_plainly now i k (step_comes now i k st es keeps may bytes) in
    let h : HostState = state_of st.read k in
    let state : state_of st.read new ≡ quiet_to new.quiet_until (stepped now i h) = over.state st.read keeps.reads in
    let quiet : IsQuiet (quiet_to new.quiet_until (stepped now i h)) = subst IsQuiet state over.quiet in
    record {
      setting = keeps.setting;
      reads = λ text. keeps.reads text ∙ ap (λ (m : Made). command_in (forms (layout_of m.sizes)) text) (sym over.config);
      stands = subst (λ f. HostStands (state_of st.read new) st (entry_of now i f ∷ es)) (sym (effects_are now i k new fx st es keeps may bytes over))
          (subst (λ g. HostStands g st (entry_at st es now i ∷ es)) (sym state)
          (stands_calm new.quiet_until (stepped now i h) st (entry_at st es now i ∷ es) (steps_are_taken_plainly.stands now i h st es plainly) quiet));
      sound = subst IsSound (sym state) (sound_calm new.quiet_until (stepped now i h) (steps_are_taken_plainly.sound now i h st es plainly));
      grace = subst (λ (m : Made). m.grace ≤ 600000) (sym over.config) keeps.grace;
    }

pub are_numbered : (now : ℕ) (i : Input) (k new : HostKept) (fx : Effects) (st : Setting) (es : Trace) → Keeping k st es → MayCome st es now i → IsByteInput i → IsOver now i k new fx
    → IsNumbered st es fx
are_numbered now i k new fx st es keeps may bytes over =
    let may_come = steps_are_taken_plainly.may now i (state_of st.read k) st es (comes_plainly now i k (step_comes now i k st es keeps may bytes)) in
    subst (IsNumbered st es) (sym (over.effects st.read keeps.reads))
    (record { calls = effects_are_sound.calls now i (state_of st.read k) st es may_come; starts = effects_are_sound.starts now i (state_of st.read k) st es may_come })

pub calls_sound : (now : ℕ) (i : Input) (k new : HostKept) (fx : Effects) (st : Setting) (es : Trace) → Keeping k st es → MayCome st es now i → IsByteInput i → IsOver now i k new fx
    → (c : Call) → Contains fx.calls c → IsSoundCall st.layout.sector c
calls_sound now i k new fx st es keeps may bytes over c there =
    let may_come = steps_are_taken_plainly.may now i (state_of st.read k) st es (comes_plainly now i k (step_comes now i k st es keeps may bytes)) in
    effects_are_sound.sound now i (state_of st.read k) st es c may_come (subst (λ (f : Effects). Contains f.calls c) (over.effects st.read keeps.reads) there)
