-- Events that no daemon takes: what is kept and the daemons that run stand for the world after them.
use Rattle.sl_area.specs.AreaSizes.{layout_of}
use Rattle.sl_world_state.specs.Daemons.{Stood, begun_with, program_of}
use Rattle.sl_world_state.specs.Inputs.{own_in}
use Rattle.sl_world_state.specs.KeptWorld.{KeptState, MachineState}
use Rattle.sl_world_state.specs.SaneWorlds.{ReadsCommands, WorldStands}
use Rattle.sl_world_state.specs.ShownWorlds.{shown}
use Rattle.sl_world_state.specs.Steps.{stepped_kept}
use Rattle.sl_world_law.proofs.AllowedEvents.{allowed, machine_found}
use Rattle.sl_world_law.proofs.GivenInputs.{inputs_are_kept, own_effects_are_kept}
use Rattle.sl_world_law.proofs.Lookups.{machine_place, machine_shown}
use Rattle.sl_world_law.proofs.WholeEvents.{events_are_kept}
use Rattle.sl_run.specs.Lawful.{IsSetting}
use Rattle.sl_words.proofs.Options.{mapped_value}
use Rattle.sl_run.specs.Refusals.{event_tests, may_happen, needs_daemon}
use Rattle.sl_run.specs.EventChanges.{first_change, happens, next_step, take_step}
use Rattle.sl_run.specs.Inputs.{input_of, machine_of}
use Rattle.sl_run.specs.Headers.{IsHeader}
use Rattle.sl_run.specs.Runs.{HasSteps}
use Rattle.sl_run.specs.Worlds.{Machine, World, machine_at, next_numbers, setting_of}
use Rattle.sl_run.specs.declared.event.Event.TheVariants.{Crash, Reset, StartDaemon}
use Rattle.sl_run.specs.declared.event.Event.{Event}
use Rattle.sl_run.specs.declared.event.Refusal.TheVariants.{MissingUp}
use Rattle.sl_run.specs.declared.header.Header.{Header}
use Rattle.sl_world_law.proofs.SaneEvents.{may_start, sanity_stays}
use Rattle.sl_sector.proofs.WrittenBytes.{sha256_is_digest}
use Rattle.sl_text.specs.Forms.{Form}
use Rattle.sl_text.specs.Names.{is_name}
use Rattle.sl_trace.specs.Traces.{Setting, Trace}
use Rattle.sl_trace.specs.declared.command.Command.{Command}
use Rattle.sl_trace.specs.declared.input.Input.{Input}
use Rattle.sl_trace.specs.declared.input.Numbers.{Numbers}
use Rattle.sl_words.proofs.CaseLaws.{none_some}
use Rattle.sl_world_law.proofs.EventsHost.{crashed_hosted, first_hosted, new_setting, own_hosted, reset_hosted, started_hosted}
use Rattle.sl_world_law.proofs.EventsStand.{may_be, reads_still, steps_own}
use Rattle.sl_world_law.proofs.DaemonsStand.{Hosted, hosted, standing}
use Rattle.sl_world_law.specs.WorldsStand.{BeginningsAreSettings, BeginningsStand, Comes, EndsStand, OwnStands, new_site}
use Rattle.std.proofs.Common.{ap, arith, refl, subst, sym, ◌∙◌}
use Rattle.std.specs.Prelude.{IsTrue, List, None, Option, Some, not, option_and_then, slice_set, true, [], ℕ, ◌-◌, ◌∷◌, ◌≡◌}

-- Whatever the first change makes of the daemons.
own_comes : {D : Type 0} (commands : Header → List (Form Command)) (stands : D → Setting → Trace → Type 0) (k : KeptState) (hosts after : List (Option D)) (w : World)
    → WorldStands commands stands k hosts w → (e : Event) → may_happen w e ≡ true → input_of w e ≡ None → Hosted stands after (next_step (first_change e w))
    → Comes commands stands w e (own_in k e) (stepped_kept e (own_in k e) k) after
own_comes commands stands k hosts after w t e may gives h =
    let steps = subst (λ fx. HasSteps w e (fx ∷ [])) (own_effects_are_kept k w t.tells e) (steps_own w e gives) in
    record {
      may = may;
      steps = steps;
      stays = standing commands stands (stepped_kept e (own_in k e) k) after (happens w e (own_in k e ∷ []))
          (events_are_kept commands k w t.tells t.sane e may (own_in k e) steps)
          (sanity_stays commands w t.sane e may (own_in k e) steps (λ i given a d at runs. absurd (none_some i (sym gives ∙ given))))
          (reads_still commands w e (own_in k e) t.reads)
          (subst (λ o. Hosted stands after (take_step (machine_of e) o (own_in k e) (next_step (first_change e w)))) (sym gives)
          (own_hosted stands after (next_step (first_change e w)) h (machine_of e) (own_in k e)));
    }

pub own_stands : {D : Type 0} (commands : Header → List (Form Command)) (stands : D → Setting → Trace → Type 0) → OwnStands commands stands
own_stands commands stands k hosts w t e none gives stays =
    let may = may_be commands stands k hosts w t e none in
    own_comes commands stands k hosts hosts w t e may (inputs_are_kept commands k w t.tells t.sane e may ∙ gives)
    (first_hosted stands hosts w (hosted commands stands k hosts w t) e stays)

-- ---- ends

abbrev no_one : Machine → Option Input
no_one a = None

none_given : (o : Option Machine) → option_and_then no_one o ≡ None
none_given None = refl
none_given (Some a) = refl

crash_found : (w : World) (m : ℕ) → may_happen w (Crash m) ≡ true → (a : Machine) × (machine_at w m ≡ Some a)
unfolding event_tests
crash_found w m may = let a = machine_found w m (λ b. needs_daemon b ∷ []) (allowed w (Crash m) may) in (a.0, a.1)

reset_found : (w : World) (m : ℕ) → may_happen w (Reset m) ≡ true → (a : Machine) × (machine_at w m ≡ Some a)
unfolding event_tests
reset_found w m may = let a = machine_found w m (λ b. (not b.up, MissingUp) ∷ []) (allowed w (Reset m) may) in (a.0, a.1)

pub ends_stand : {D : Type 0} (commands : Header → List (Form Command)) (stands : D → Setting → Trace → Type 0) → EndsStand commands stands
ends_stand commands stands =
    record {
      crashes = λ m k hosts w t none. let may = may_be commands stands k hosts w t (Crash m) none in let a = crash_found w m may in
          own_comes commands stands k hosts (slice_set hosts (m - 1) None) w t (Crash m) may (none_given (machine_at w m))
          (crashed_hosted stands hosts w (hosted commands stands k hosts w t) m a.0 a.1);
      resets = λ m k hosts w t none. let may = may_be commands stands k hosts w t (Reset m) none in let a = reset_found w m may in
          own_comes commands stands k hosts (slice_set hosts (m - 1) None) w t (Reset m) may (none_given (machine_at w m))
          (reset_hosted stands hosts w (hosted commands stands k hosts w t) m a.0 a.1);
    }

-- ---- beginnings

-- What the header says and a good name make a setting.
new_is_setting : (commands : Header → List (Form Command)) (h : Header) → IsHeader h → ReadsCommands commands h → (m : ℕ) (name : List ℕ) → IsTrue (is_name name) → (first : Numbers)
    → IsSetting (setting_of (program_of commands) (layout_of h.geometry) h m name first [])
new_is_setting commands h is reads m name named first =
    record {
      timing = is.timing;
      layout = (h.geometry, is.geometry, refl);
      digest = sha256_is_digest;
      name = named;
      reads = reads;
      each = tt;
      different = λ i j d less inside. absurd (omega (arith, inside));
    }

pub beginnings_are_settings : {D : Type 0} (commands : Header → List (Form Command)) (stands : D → Setting → Trace → Type 0) → BeginningsAreSettings commands stands
beginnings_are_settings commands stands k hosts w t m name named s =
    let is = subst IsHeader t.tells.header t.sane.header in
    (is, new_is_setting commands k.header is (subst (ReadsCommands commands) t.tells.header t.reads) m name named s.next)

shown_numbers : (h : Header) (a : Machine) → (shown h a).next ≡ next_numbers a
unfolding shown
shown_numbers h a = refl

pub beginnings_stand : {D : Type 0} (commands : Header → List (Form Command)) (stands : D → Setting → Trace → Type 0) → BeginningsStand commands stands
beginnings_stand commands stands k hosts w t m name named none s there host begun =
    let may = may_be commands stands k hosts w t (StartDaemon m name) none in
    let a = mapped_value (shown w.header) (machine_at w m) s (sym (machine_shown k w t.tells m) ∙ there) in
    let free = may_start w m name may a.0 a.1 (t.sane.sane (m - 1) a.0 (machine_place w m a.0 a.1)) in
    let first : s.next ≡ next_numbers a.0 = ap (λ (x : MachineState). x.next) (sym a.2) ∙ shown_numbers w.header a.0 in
    let setting : begun_with commands k.header (new_site m name s) ≡ new_setting w m name a.0 = λ j.
    setting_of (sym t.sane.program j) (sym t.tells.layout j) (sym t.tells.header j) m name (first j) [] in
    let stood : Stood stands (begun_with commands k.header (new_site m name s)) [] =
    record { setting = (beginnings_are_settings commands stands k hosts w t m name named s).1; trace = tt; daemon = host; stood = begun } in
    own_comes commands stands k hosts (slice_set hosts (m - 1) (Some host)) w t (StartDaemon m name) may (none_given (machine_at w m))
    (started_hosted stands hosts w (hosted commands stands k hosts w t) m name a.0 a.1 free.0 host (subst (λ st. stands host st []) setting begun)
    (subst (λ st. Stood stands st []) setting stood))
