-- All of an event: what it changes first, and its step or what the machine does itself.
use Rattle.sl_world_state.specs.Changes.{first_kept}
use Rattle.sl_world_state.specs.KeptWorld.{KeptState}
use Rattle.sl_world_state.specs.SaneWorlds.{IsSane}
use Rattle.sl_world_state.specs.ShownWorlds.{Tells}
use Rattle.sl_world_state.specs.Steps.{taken_kept}
use Rattle.sl_world_law.proofs.AllowedEvents.{allowed, machine_allowed, open_test}
use Rattle.sl_world_law.proofs.MachineChanges.{tells_next}
use Rattle.sl_world_law.proofs.DaemonLives.{lives_are_kept}
use Rattle.sl_world_law.proofs.FlightEvents.{flights_are_kept}
use Rattle.sl_world_law.proofs.GivenInputs.{inputs_are_kept}
use Rattle.sl_world_law.proofs.Lookups.{machine_place}
use Rattle.sl_world_law.proofs.PassedTime.{times_are_kept}
use Rattle.sl_world_law.proofs.StepsAreKept.{own_is_kept, steps_are_kept}
use Rattle.sl_world_law.proofs.TestLists.{Tests}
use Rattle.sl_world_law.specs.Events.{EventsAreKept}
use Rattle.sl_words.proofs.Lists.{set_here}
use Rattle.sl_words.proofs.Options.{not_none, some_there, then_value}
use Rattle.sl_words.proofs.CaseLaws.{none_some}
use Rattle.sl_words.proofs.WordLaws.{choose_some}
use Rattle.sl_words.specs.Words.{choose}
use Rattle.sl_run.specs.EventChanges.{add_landing, change_call, complete, fated, first_change, flight_at, land_whole, next_input, next_step, own_effects, sampled_more, take_step, write_bytes}
use Rattle.sl_run.specs.Refusals.{event_tests, is_placed, is_read_course, may_happen, on_flight, sectors_left}
use Rattle.sl_run.specs.Inputs.{if_running, input_at, input_of, machine_of}
use Rattle.sl_run.specs.Runs.{HasSteps, own_effects_of}
use Rattle.sl_run.specs.Worlds.{Course, Daemon, Landed, Machine, Stamp, World, change_machine, is_in_flight, is_landed, is_of_running, is_torn_fate, is_write_course, machine_at}
use Rattle.sl_run.specs.declared.event.Event.TheVariants.{AnswerCall, Crash, Do, DropWrite, ExitOf, GiveAsk, GiveCommand, GiveLvm, Land, Pass, Reset, Restart, Sample, SpawnedOf, StartDaemon, Tear, Test, WakeUp}
use Rattle.sl_run.specs.declared.event.Event.{Event}
use Rattle.sl_run.specs.declared.event.Refusal.TheVariants.{MissingDaemon, MissingLanding, MissingPlace, MissingSample}
use Rattle.sl_run.specs.declared.header.Header.{Header}
use Rattle.sl_text.specs.Forms.{Form}
use Rattle.sl_trace.specs.Traces.{no_effects}
use Rattle.sl_trace.specs.declared.command.Command.{Command}
use Rattle.sl_trace.specs.declared.effects.Effects.{Effects}
use Rattle.sl_trace.specs.declared.input.Input.TheVariants.{Line}
use Rattle.sl_trace.specs.declared.input.Input.{Input}
use Rattle.std.proofs.Common.{ap, arith, refl, subst, sym, ◌∙◌}
use Rattle.std.specs.Option.{option_map_or}
use Rattle.std.specs.Prelude.{Bool, Contains, IsSome, List, None, Option, Some, false, if◌then◌else◌, is_none, is_some, length, nat_lt, not, slice_get, slice_set, take, true, unwrap_or, [], ℕ, ◌&&◌, ◌-◌, ◌<◌, ◌==◌, ◌∷◌, ◌≡◌, ◌≤◌}

-- ---- what changes first

pub first_changes : (commands : Header → List (Form Command)) (k : KeptState) (w : World) → Tells k w → IsSane commands w → (e : Event) → may_happen w e ≡ true
    → Tells (first_kept e k) (first_change e w)
unfolding first_kept first_change
first_changes commands k w t is (Pass d gs) may = times_are_kept.passes k w t d gs
first_changes commands k w t is (Test m) may = times_are_kept.tests k w t m
first_changes commands k w t is (Restart m) may = times_are_kept.restarts k w t m
first_changes commands k w t is (StartDaemon m name) may = lives_are_kept.starts commands k w t is m name may
first_changes commands k w t is (Crash m) may = lives_are_kept.crashes k w t m
first_changes commands k w t is (Reset m) may = lives_are_kept.resets commands k w t is m
first_changes commands k w t is (Sample m c n) may = flights_are_kept.samples m c n commands k w t is may
first_changes commands k w t is (Land m c) may = flights_are_kept.lands m c commands k w t is may
first_changes commands k w t is (Tear m c n bytes) may = flights_are_kept.tears m c n bytes commands k w t is may
first_changes commands k w t is (Do m c) may = flights_are_kept.does m c commands k w t is may
first_changes commands k w t is (DropWrite m c) may = flights_are_kept.drops m c commands k w t is may
first_changes commands k w t is (WakeUp m) may = t
first_changes commands k w t is (GiveCommand m text) may = t
first_changes commands k w t is (GiveLvm m line) may = t
first_changes commands k w t is (GiveAsk m) may = t
first_changes commands k w t is (AnswerCall m c ok) may = t
first_changes commands k w t is (ExitOf m p) may = t
first_changes commands k w t is (SpawnedOf m p ok) may = t

-- ---- what the machine does itself

own_calls : (w : World) (e : Event) (a : Machine) → (own_effects w e a).calls ≡ []
own_calls w (ExitOf m p) a = refl
own_calls w (Reset m) a = refl
own_calls w e a = refl

pub no_calls : (w : World) (e : Event) (o : Option Machine) → (option_map_or (own_effects w e) o no_effects).calls ≡ []
no_calls w e None = refl
no_calls w e (Some a) = own_calls w e a

-- ---- the step

-- A machine of a later world on which the same daemon runs, with no reset since.
record StillRuns (w v : World) (m : ℕ) (a : Machine) : Type 0 where
  pub machine : Machine
  pub there : machine_at v m ≡ Some machine
  pub daemon : machine.daemon ≡ a.daemon
  pub clock : machine.clock ≡ a.clock
  pub resets : machine.resets ≡ a.resets
  pub step : v.step ≡ w.step

stays_here : (w : World) (m : ℕ) (a : Machine) → machine_at w m ≡ Some a → StillRuns w w m a
stays_here w m a at = record { machine = a; there = at; daemon = refl; clock = refl; resets = refl; step = refl }

not_first : (b : Bool) (o : Option Machine) (a : Machine) → (if b then None else o) ≡ Some a → b ≡ false
not_first true o a h = absurd cc
not_first false o a h = refl

-- It is changed, but for its daemon and its resets.
changed_here : (w v : World) (m : ℕ) (a : Machine) (f : Machine → Machine) → machine_at v m ≡ Some a → (f a).daemon ≡ a.daemon → (f a).clock ≡ a.clock → (f a).resets ≡ a.resets → v.step ≡ w.step
    → StillRuns w (change_machine m f v) m a
changed_here w v m a f at daemon clock resets step =
    subst (λ u. StillRuns w u m a) (sym (ap (λ (o : Option Machine). elim o as (λ z. World) [ None ↦ v | Some b ↦ record v { machines = slice_set v.machines (m - 1) (f b) } ]) at))
    (record {
      machine = f a;
      there = ap (λ z. if z then None else slice_get (slice_set v.machines (m - 1) (f a)) (m - 1)) (not_first (m == 0) (slice_get v.machines (m - 1)) a at)
          ∙ set_here v.machines (m - 1) (f a) a (machine_place v m a at);
      daemon = daemon;
      clock = clock;
      resets = resets;
      step = step;
    })

landed_here : (w : World) (m c : ℕ) (a : Machine) → machine_at w m ≡ Some a → StillRuns w (land_whole m c w) m a
landed_here w m c a at = go (flight_at w m c)
  where
    go : (o : Option Course) → StillRuns w (option_map_or (λ (f : Course). change_machine m (change_call c (fated Landed)) (add_landing m f.call true (write_bytes w f.call) w)) o w) m a
    go None = stays_here w m a at
    go (Some f) = changed_here w (add_landing m f.call true (write_bytes w f.call) w) m a (change_call c (fated Landed)) at refl refl refl refl

done_here : (w : World) (m c : ℕ) (a : Machine) → machine_at w m ≡ Some a → StillRuns w (complete m c w) m a
done_here w m c a at = go (flight_at w m c)
  where
    flies : (b : Bool) → StillRuns w (elim b as (λ z. World) [ true ↦ land_whole m c w | false ↦ w ]) m a
    flies true = landed_here w m c a at
    flies false = stays_here w m a at

    writes : (f : Course) (b : Bool) → StillRuns w (elim b as (λ z. World) [
      | false ↦ change_machine m (change_call c (sampled_more w (sectors_left f))) w
      | true ↦ elim (is_in_flight f.fate) as (λ z. World) [ true ↦ land_whole m c w | false ↦ w ]
    ]) m a
    writes f false = changed_here w w m a (change_call c (sampled_more w (sectors_left f))) at refl refl refl refl
    writes f true = flies (is_in_flight f.fate)

    go : (o : Option Course) → StillRuns w (elim o as (λ z. World) [
      | None ↦ w
      | Some f ↦ elim (is_write_course f) as (λ z. World) [
        | false ↦ change_machine m (change_call c (sampled_more w (sectors_left f))) w
        | true ↦ elim (is_in_flight f.fate) as (λ z. World) [ true ↦ land_whole m c w | false ↦ w ]
      ]
    ]) m a
    go None = stays_here w m a at
    go (Some f) = writes f (is_write_course f)

-- Where the event's daemon runs once its first change is made, and where it ran before.
pub record RunsThen (w : World) (e : Event) : Type 0 where
  pub machine : Machine
  pub there : machine_at (next_step (first_change e w)) (machine_of e) ≡ Some machine
  pub daemon : Daemon
  pub runs : machine.daemon ≡ Some daemon
  pub before : Machine
  pub was : machine_at w (machine_of e) ≡ Some before
  pub ran : before.daemon ≡ Some daemon
  pub clock : machine.clock ≡ before.clock
  pub old : (r : Stamp) → Contains machine.resets r → r.step < (next_step (first_change e w)).step

-- .. on a machine on which it ran before.
from_before : (commands : Header → List (Form Command)) (w : World) → IsSane commands w → (e : Event) (a : Machine) → machine_at w (machine_of e) ≡ Some a
    → (d : Daemon) → a.daemon ≡ Some d → StillRuns w (first_change e w) (machine_of e) a → RunsThen w e
from_before commands w is e a at d runs s =
    record {
      machine = s.machine;
      there = s.there;
      daemon = d;
      runs = s.daemon ∙ runs;
      before = a;
      was = at;
      ran = runs;
      clock = s.clock;
      old = λ r inside.
          let before = ((is.sane (machine_of e - 1) a (machine_place w (machine_of e) a at)).resets r (subst (λ rs. Contains rs r) s.resets inside)).0 in
          let same = s.step in
          omega (arith, before, same);
    }

-- Where an input is for the daemon that runs.
where_it_runs : (a : Machine) (i j : Input) → choose (is_some a.daemon) i ≡ Some j → (d : Daemon) × (a.daemon ≡ Some d)
where_it_runs a i j h = some_there a.daemon (choose_some (is_some a.daemon) i j h).0

pub runs_then : (commands : Header → List (Form Command)) (w : World) → IsSane commands w → (e : Event) → may_happen w e ≡ true → (i : Input) → input_of w e ≡ Some i → RunsThen w e
unfolding first_change event_tests
runs_then commands w is (WakeUp m) may i gives =
    let a = then_value (input_at w (WakeUp m)) (machine_at w m) i gives in
    let d = where_it_runs a.0 _ i a.2 in
    from_before commands w is (WakeUp m) a.0 a.1 d.0 d.1 (stays_here w m a.0 a.1)
runs_then commands w is (GiveCommand m text) may i gives =
    let a = then_value (input_at w (GiveCommand m text)) (machine_at w m) i gives in
    let d = where_it_runs a.0 _ i a.2 in
    from_before commands w is (GiveCommand m text) a.0 a.1 d.0 d.1 (stays_here w m a.0 a.1)
runs_then commands w is (GiveLvm m line) may i gives =
    let a = then_value (input_at w (GiveLvm m line)) (machine_at w m) i gives in
    let d = where_it_runs a.0 _ i a.2 in
    from_before commands w is (GiveLvm m line) a.0 a.1 d.0 d.1 (stays_here w m a.0 a.1)
runs_then commands w is (GiveAsk m) may i gives =
    let a = then_value (input_at w (GiveAsk m)) (machine_at w m) i gives in
    let text = then_value (λ x. if_running a.0 (Line x)) a.0.locks.due i a.2 in
    let d = where_it_runs a.0 _ i text.2 in
    from_before commands w is (GiveAsk m) a.0 a.1 d.0 d.1 (stays_here w m a.0 a.1)
runs_then commands w is (ExitOf m p) may i gives =
    let a = then_value (input_at w (ExitOf m p)) (machine_at w m) i gives in
    let d = where_it_runs a.0 _ i a.2 in
    from_before commands w is (ExitOf m p) a.0 a.1 d.0 d.1 (stays_here w m a.0 a.1)
runs_then commands w is (SpawnedOf m p ok) may i gives =
    let a = then_value (input_at w (SpawnedOf m p ok)) (machine_at w m) i gives in
    let d = where_it_runs a.0 _ i a.2 in
    from_before commands w is (SpawnedOf m p ok) a.0 a.1 d.0 d.1 (stays_here w m a.0 a.1)
runs_then commands w is (AnswerCall m c ok) may i gives =
    let a = then_value (input_at w (AnswerCall m c ok)) (machine_at w m) i gives in
    let inner : Machine → Tests = λ b. on_flight b c (is_of_running b) (λ f.
    (ok && is_read_course f && nat_lt 0 (sectors_left f), MissingSample) ∷ (ok && is_write_course f && not (is_landed f.fate), MissingLanding) ∷ []) in
    let here = machine_allowed w m (λ b. (is_none b.daemon, MissingDaemon) ∷ inner b) a.0 (allowed w (AnswerCall m c ok) may) a.1 in
    let d = not_none a.0.daemon (open_test (is_none a.0.daemon) MissingDaemon (inner a.0) here).0 in
    from_before commands w is (AnswerCall m c ok) a.0 a.1 d.0 d.1 (stays_here w m a.0 a.1)
runs_then commands w is (Do m c) may i gives =
    let a = then_value (input_at w (Do m c)) (machine_at w m) i gives in
    let inner : Machine → Tests = λ b. on_flight b c (is_of_running b) (λ f. (not (is_placed w f.call), MissingPlace) ∷ (is_torn_fate f.fate, MissingLanding) ∷ []) in
    let here = machine_allowed w m (λ b. (is_none b.daemon, MissingDaemon) ∷ inner b) a.0 (allowed w (Do m c) may) a.1 in
    let d = not_none a.0.daemon (open_test (is_none a.0.daemon) MissingDaemon (inner a.0) here).0 in
    from_before commands w is (Do m c) a.0 a.1 d.0 d.1 (done_here w m c a.0 a.1)
runs_then commands w is e may i gives = absurd (none_some i (then_value (input_at w e) (machine_at w (machine_of e)) i gives).2)

first_is : (x y : Effects) → x ∷ [] ≡ y ∷ [] → x ≡ y
first_is x y h = ap (λ (xs : List Effects). unwrap_or (slice_get xs 0) x) h

stepped : (commands : Header → List (Form Command)) (k : KeptState) (w : World) → Tells k w → IsSane commands w → (e : Event) → may_happen w e ≡ true → (fx : Effects)
    → HasSteps w e (fx ∷ []) → (o : Option Input) → input_of w e ≡ o
    → Tells (taken_kept (machine_of e) o fx (first_kept e k)) (take_step (machine_of e) o fx (next_step (first_change e w)))
stepped commands k w t is e may fx steps None gives =
    let P : Option Input → Type 0 = λ o. elim o as (λ x. Type 0) [
      | Some i ↦ (1 ≤ length (fx ∷ [])) × (next_input w e (fx ∷ []) ≡ None) × ((j : ℕ) → j < length (fx ∷ []) → IsSome (next_input w e (take j (fx ∷ []))))
      | None ↦ fx ∷ [] ≡ own_effects_of w e ∷ []
    ] in
    own_is_kept (first_kept e k) (next_step (first_change e w)) (tells_next _ _ (first_changes commands k w t is e may)) (machine_of e) fx
    (ap (λ (x : Effects). x.calls) (first_is fx (own_effects_of w e) (subst P gives steps)) ∙ no_calls w e (machine_at w (machine_of e)))
stepped commands k w t is e may fx steps (Some i) gives =
    let r = runs_then commands w is e may i gives in
    steps_are_kept (first_kept e k) (next_step (first_change e w)) (tells_next _ _ (first_changes commands k w t is e may)) (machine_of e) r.machine r.daemon r.there r.runs r.old i fx

pub events_are_kept : EventsAreKept
events_are_kept commands k w t is e may fx steps =
    subst (λ o. Tells (taken_kept (machine_of e) o fx (first_kept e k)) (take_step (machine_of e) (input_of w e) fx (next_step (first_change e w))))
    (inputs_are_kept commands k w t is e may) (stepped commands k w t is e may fx steps (input_of w e) refl)
