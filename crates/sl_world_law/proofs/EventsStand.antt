-- What is kept and the daemons that run stand for the world after each event.
use Rattle.sl_area.specs.AreaSizes.{Layout}
use Rattle.sl_world_state.specs.Daemons.{IsSoundCall, MayCome, Stood, entry_of}
use Rattle.sl_world_state.specs.declared.daemon.Most.{Most}
use Rattle.sl_world_state.specs.Inputs.{input_in}
use Rattle.sl_world_state.specs.KeptWorld.{KeptState, MachineState, machine_in}
use Rattle.sl_world_state.specs.Refusals.{refusal_in}
use Rattle.sl_world_state.specs.SaneWorlds.{ReadsCommands, RunsOn, WorldStands}
use Rattle.sl_world_state.specs.ShownWorlds.{shown}
use Rattle.sl_world_state.specs.Steps.{stepped_kept}
use Rattle.sl_world_law.proofs.GivenInputs.{inputs_are_kept}
use Rattle.sl_world_law.proofs.Lookups.{machine_place, machine_shown}
use Rattle.sl_world_law.proofs.RefusalCases.{refusals_are_kept}
use Rattle.sl_world_law.proofs.WholeEvents.{RunsThen, events_are_kept, runs_then}
use Rattle.sl_words.proofs.Lists.{contains_cases, contains_more, there_is}
use Rattle.sl_words.proofs.Options.{then_value}
use Rattle.sl_run.specs.EventChanges.{after_step, first_change, happens, next_input, next_step, take_step}
use Rattle.sl_run.specs.Inputs.{input_of, machine_of}
use Rattle.sl_run.specs.Refusals.{may_happen}
use Rattle.sl_run.specs.Runs.{HasSteps, own_effects_of}
use Rattle.sl_run.specs.Worlds.{Daemon, Machine, World, daemons_on, machine_at, next_numbers, reading_now, stamp_now}
use Rattle.sl_run.specs.declared.event.Event.TheVariants.{Crash, Reset, StartDaemon}
use Rattle.sl_run.specs.declared.event.Event.{Event}
use Rattle.sl_run.specs.declared.header.Header.{Header}
use Rattle.sl_run_law.proofs.Landing.OneEvent.{event_goes_on}
use Rattle.sl_world_law.proofs.ComingInputs.{inputs_may_come, numbers_of}
use Rattle.sl_world_law.proofs.SaneEvents.{sanity_stays}
use Rattle.sl_world_law.proofs.SaneSteps.{daemons_now, daemons_then, runs_inside, runs_still, stepped_daemon}
use Rattle.sl_world_law.specs.SaneInputs.{HasNumbers}
use Rattle.sl_world_law.specs.SanityStays.{IsSoundStep}
use Rattle.sl_text.specs.Forms.{Form}
use Rattle.sl_time.specs.Times.{reading_of}
use Rattle.sl_trace.specs.Traces.{Setting, Trace}
use Rattle.sl_trace.specs.declared.command.Command.{Command}
use Rattle.sl_trace.specs.declared.effects.Call.{Call}
use Rattle.sl_trace.specs.declared.effects.Effects.{Effects}
use Rattle.sl_trace.specs.declared.input.Input.{Input}
use Rattle.sl_trace.specs.declared.input.Numbers.{Numbers}
use Rattle.sl_words.proofs.CaseLaws.{none_some, one_value, some_value}
use Rattle.sl_world_law.proofs.EventsHost.{first_hosted}
use Rattle.sl_world_law.proofs.DaemonsStand.{Hosted, changed_hosted, hosted, next_hosted, standing}
use Rattle.sl_world_law.specs.WorldsStand.{HasStepped, LeavesNumbers, RefusalsStand, StepsAreReady, StepsFit, StepsStand, begins_or_ends, seat_of}
use Rattle.std.proofs.Common.{ap, arith, inl, inr, refl, subst, suc, sym, zero, ◌∙◌}
use Rattle.std.proofs.lemmas.Option.{slice_get_within}
use Rattle.std.specs.List.{range_with_len}
use Rattle.std.specs.Prelude.{Contains, IsSome, List, None, Option, Some, false, is_none, length, map, option_map, slice_get, slice_set, take, true, [], ℕ, ◌-◌, ◌<◌, ◌∷◌, ◌≡◌, ◌≤◌}

-- ---- refusals

pub refusals_stand : {D : Type 0} (commands : Header → List (Form Command)) (stands : D → Setting → Trace → Type 0) → RefusalsStand commands stands
refusals_stand commands stands k hosts w t e = refusals_are_kept commands k w t.tells t.sane e

-- What nothing refuses may happen.
pub may_be : {D : Type 0} (commands : Header → List (Form Command)) (stands : D → Setting → Trace → Type 0) (k : KeptState) (hosts : List (Option D)) (w : World)
    → WorldStands commands stands k hosts w → (e : Event) → refusal_in commands k e ≡ None → may_happen w e ≡ true
may_be commands stands k hosts w t e none = ap is_none (refusals_stand commands stands k hosts w t e ∙ none)

-- ---- steps of an event

abbrev steps_as : World → Event → Effects → Option Input → Type 0
steps_as w e fx o =
    elim o [
      | Some i ↦ (1 ≤ length (fx ∷ [])) × (next_input w e (fx ∷ []) ≡ None) × ((j : ℕ) → j < length (fx ∷ []) → IsSome (next_input w e (take j (fx ∷ []))))
      | None ↦ fx ∷ [] ≡ own_effects_of w e ∷ []
    ]

pub steps_given : (w : World) (e : Event) (i : Input) (fx : Effects) → input_of w e ≡ Some i → HasSteps w e (fx ∷ [])
steps_given w e i fx gives = subst (steps_as w e fx) (sym gives) (omega arith, refl, each)
  where
    each : (j : ℕ) → j < length (fx ∷ []) → IsSome (next_input w e (take j (fx ∷ [])))
    each zero less = subst IsSome (sym gives) refl
    each (suc j) less = absurd (omega (arith, less))

pub steps_own : (w : World) (e : Event) → input_of w e ≡ None → HasSteps w e (own_effects_of w e ∷ [])
steps_own w e gives = subst (steps_as w e (own_effects_of w e)) (sym gives) refl

-- ---- where a daemon takes an event

shown_reading : (h : Header) (a : Machine) → reading_of (shown h a).clock ≡ reading_now a
unfolding shown
shown_reading h a = refl

shown_numbers : (h : Header) (a : Machine) → (shown h a).next ≡ next_numbers a
unfolding shown
shown_numbers h a = refl

runs_there : {D : Type 0} (stands : D → Setting → Trace → Type 0) (o : Option D) (d : Daemon) → RunsOn stands o (Some d) → (host : D) × (o ≡ Some host) × stands host d.setting d.trace
runs_there stands None d r = absurd r
runs_there stands (Some host) d r = (host, refl, r)

seat_is : {D : Type 0} (hosts : List (Option D)) (n : ℕ) (o : Option D) (host : D) → slice_get hosts n ≡ Some o → o ≡ Some host → slice_get hosts n ≡ Some (Some host)
seat_is hosts n o host at is = at ∙ ap Some is

-- The daemon that takes it, in the world and among those that run.
pub record Taken {D : Type 0} (stands : D → Setting → Trace → Type 0) (k : KeptState) (hosts : List (Option D)) (w : World) (e : Event) (i : Input) : Type 0 where
  pub may : may_happen w e ≡ true
  pub gives : input_of w e ≡ Some i
  pub run : RunsThen w e
  pub kept : machine_in k (machine_of e) ≡ Some (shown w.header run.before)
  pub host : D
  pub seated : slice_get hosts (seat_of e) ≡ Some (Some host)
  pub stood : stands host run.daemon.setting run.daemon.trace
  pub comes : MayCome run.daemon.setting run.daemon.trace (reading_now run.before) i

pub taken : {D : Type 0} (commands : Header → List (Form Command)) (stands : D → Setting → Trace → Type 0) (k : KeptState) (hosts : List (Option D)) (w : World)
    → WorldStands commands stands k hosts w → (e : Event) → refusal_in commands k e ≡ None → (i : Input) → input_in k e ≡ Some i → LeavesNumbers k e
    → Taken stands k hosts w e i
taken commands stands k hosts w t e none i gives_kept left =
    let may = may_be commands stands k hosts w t e none in
    let gives = inputs_are_kept commands k w t.tells t.sane e may ∙ gives_kept in
    let r = runs_then commands w t.sane e may i gives in
    let kept = machine_shown k w t.tells (machine_of e) ∙ ap (option_map (shown w.header)) r.was in
    let place = machine_place w (machine_of e) r.before r.was in
    let o = there_is hosts (seat_of e) (subst (λ n. seat_of e < n) (sym t.counted) (slice_get_within w.machines (seat_of e) r.before place)) in
    let host = runs_there stands o.0 r.daemon (subst (λ (z : Option Daemon). RunsOn stands o.0 z) r.ran (t.runs (seat_of e) r.before o.0 place o.1)) in
    record {
      may = may;
      gives = gives;
      run = r;
      kept = kept;
      host = host.0;
      seated = seat_is hosts (seat_of e) o.0 host.0 o.1 host.1;
      stood = host.2;
      comes = inputs_may_come commands w t.sane e may i gives r.before r.daemon r.was r.ran
          (subst HasNumbers (shown_numbers w.header r.before) (left (shown w.header r.before) kept));
    }

pub steps_are_ready : {D : Type 0} (commands : Header → List (Form Command)) (stands : D → Setting → Trace → Type 0) → StepsAreReady commands stands
steps_are_ready commands stands k hosts w t e none i gives left =
    let x = taken commands stands k hosts w t e none i gives left in
    record {
      machine = shown w.header x.run.before;
      there = x.kept;
      host = x.host;
      runs = x.seated;
      setting = x.run.daemon.setting;
      trace = x.run.daemon.trace;
      stood = x.stood;
      comes = subst (λ n. MayCome x.run.daemon.setting x.run.daemon.trace n i) (sym (shown_reading w.header x.run.before)) x.comes;
      next = sym (ap (λ (n : Numbers). n.call) (shown_numbers w.header x.run.before ∙ numbers_of x.run.before x.run.daemon x.run.ran));
      job = sym (ap (λ (n : Numbers). n.job) (shown_numbers w.header x.run.before ∙ numbers_of x.run.before x.run.daemon x.run.ran));
      layout = t.sane.layouts (seat_of e) x.run.before x.run.daemon (machine_place w (machine_of e) x.run.before x.run.was) (runs_inside x.run.before x.run.daemon x.run.ran)
          ∙ t.tells.layout;
    }

-- ---- its step

pub steps_fit : {D : Type 0} (commands : Header → List (Form Command)) (stands : D → Setting → Trace → Type 0) → StepsFit commands stands
steps_fit commands stands k hosts m i r next most fx s =
    let goes = s.stays r.setting r.trace r.stood r.comes in
    let step = s.sound r.setting r.trace r.stood r.comes in
    record {
      setting = r.setting;
      layout = r.layout;
      step = step;
      numbered = subst (λ n. map (λ (c : Call). c.number) fx.calls ≡ range_with_len n (length fx.calls)) r.next goes.1.calls;
      sound = λ c inside. subst (λ (g : Layout). IsSoundCall g.sector c) r.layout (step.calls c inside);
    }

-- An event that gives an input begins and ends no daemon.
stays_seated : (k : KeptState) (e : Event) (i : Input) → input_in k e ≡ Some i → begins_or_ends e ≡ false
stays_seated k (StartDaemon m name) i gives = absurd (none_some i (then_value (λ (s : MachineState). None) (machine_in k m) i gives).2)
stays_seated k (Crash m) i gives = absurd (none_some i (then_value (λ (s : MachineState). None) (machine_in k m) i gives).2)
stays_seated k (Reset m) i gives = absurd (none_some i (then_value (λ (s : MachineState). None) (machine_in k m) i gives).2)
stays_seated k e i gives = refl

-- What the step makes of the daemon that takes it.
record Steps {D : Type 0} (stands : D → Setting → Trace → Type 0) (next : D) (d : Daemon) (now : ℕ) (i : Input) (fx : Effects) : Type 0 where
  pub sound : IsSoundStep d.setting d.trace fx
  pub stands_now : stands next d.setting (entry_of now i fx ∷ d.trace)
  pub stood : Stood stands d.setting (entry_of now i fx ∷ d.trace)

steps_on : {D : Type 0} (stands : D → Setting → Trace → Type 0) (most : Most) (host next : D) (d : Daemon) (now : ℕ) (i : Input) (fx : Effects) → HasStepped stands most host next now i fx
    → stands host d.setting d.trace → MayCome d.setting d.trace now i → Stood stands d.setting d.trace → Steps stands next d now i fx
steps_on stands most host next d now i fx s was comes stood =
    let goes = s.stays d.setting d.trace was comes in
    record {
      sound = record { numbered = goes.1; sound = (s.sound d.setting d.trace was comes).calls };
      stands_now = goes.0;
      stood = record {
        setting = stood.setting;
        trace = (record { time = comes.time; below = comes.below; expected = comes.expected; numbered = goes.1.calls }, stood.trace);
        daemon = next;
        stood = goes.0;
      };
    }

step_hosted : {D : Type 0} (stands : D → Setting → Trace → Type 0) (hosts : List (Option D)) (v : World) → Hosted stands hosts v → (m : ℕ) (a : Machine) (d : Daemon)
    → machine_at v m ≡ Some a → a.daemon ≡ Some d → (next : D) (i : Input) (fx : Effects) → Steps stands next d (reading_now a) i fx
    → Hosted stands (slice_set hosts (m - 1) (Some next)) (take_step m (Some i) fx v)
step_hosted {D} stands hosts v h m a d at runs next i fx s =
    next_hosted stands _ _ (changed_hosted stands hosts v h m a at (λ b. after_step (stamp_now v b) i fx b) (Some next)
    (subst (λ (o : Option Daemon). RunsOn stands (Some next) o) (sym (runs_still (stamp_now v a) i fx a d runs)) s.stands_now) each)
  where
    each : (x : Daemon) → Contains (daemons_on (after_step (stamp_now v a) i fx a)) x → Stood stands x.setting x.trace
    each x inside =
        elim (contains_cases (stepped_daemon (stamp_now v a) i fx a d) a.ended x (subst (λ (ds : List Daemon). Contains ds x) (daemons_then (stamp_now v a) i fx a d runs) inside)) [
          | inl same ↦ subst (λ (y : Daemon). Stood stands y.setting y.trace) same s.stood
          | inr older ↦ h.stood (m - 1) a x (machine_place v m a at)
              (subst (λ (ds : List Daemon). Contains ds x) (sym (daemons_now a d runs)) (contains_more d a.ended x older))
        ]

pub reads_still : (commands : Header → List (Form Command)) (w : World) (e : Event) (fx : Effects) → ReadsCommands commands w.header → ReadsCommands commands (happens w e (fx ∷ [])).header
reads_still commands w e fx reads = subst (ReadsCommands commands) (sym (event_goes_on w e fx).header) reads

pub steps_stand : {D : Type 0} (commands : Header → List (Form Command)) (stands : D → Setting → Trace → Type 0) → StepsStand commands stands
steps_stand {D} commands stands k hosts w t e none i gives_kept left s s_there host next seated most fx stepped =
    let x = taken commands stands k hosts w t e none i gives_kept left in
    let r : RunsThen w e = x.run in
    let steps = steps_given w e i fx x.gives in
    let reads : reading_of s.clock ≡ reading_now r.before =
    ap (λ (y : MachineState). reading_of y.clock) (one_value s (shown w.header r.before) (machine_in k (machine_of e)) s_there x.kept) ∙ shown_reading w.header r.before in
    let same_host : x.host ≡ host = some_value x.host host (some_value (Some x.host) (Some host) (sym x.seated ∙ seated)) in
    let goes = steps_on stands most host next r.daemon (reading_now r.before) i fx (subst (λ n. HasStepped stands most host next n i fx) reads stepped)
    (subst (λ (y : D). stands y r.daemon.setting r.daemon.trace) same_host x.stood) x.comes
    (t.stood (seat_of e) r.before r.daemon (machine_place w (machine_of e) r.before r.was) (runs_inside r.before r.daemon r.ran)) in
    record {
      may = x.may;
      steps = steps;
      stays = standing commands stands (stepped_kept e fx k) (slice_set hosts (seat_of e) (Some next)) (happens w e (fx ∷ []))
          (events_are_kept commands k w t.tells t.sane e x.may fx steps)
          (sanity_stays commands w t.sane e x.may fx steps (λ j j_gives a d at runs.
          let same_machine = one_value r.before a (machine_at w (machine_of e)) r.was at in
          let same_daemon = some_value r.daemon d (sym r.ran ∙ ap (λ (y : Machine). y.daemon) same_machine ∙ runs) in
          subst (λ (y : Daemon). IsSoundStep y.setting y.trace fx) same_daemon goes.sound))
          (reads_still commands w e fx t.reads)
          (subst (λ o. Hosted stands (slice_set hosts (seat_of e) (Some next)) (take_step (machine_of e) o fx (next_step (first_change e w)))) (sym x.gives)
          (step_hosted stands hosts (next_step (first_change e w)) (first_hosted stands hosts w (hosted commands stands k hosts w t) e (stays_seated k e i gives_kept))
          (machine_of e) r.machine r.daemon r.there r.runs next i fx
          (subst (λ n. Steps stands next r.daemon n i fx) (sym (ap reading_of r.clock)) goes)));
    }
