-- What an event gives that nothing refuses, and what comes of it.
use Rattle.sl_world_state.specs.declared.daemon.Most.{Most}
use Rattle.sl_world_state.specs.Daemons.{text_for_locks}
use Rattle.sl_world_state.specs.Changes.{change_flight, crashed_machine, dropped_flight, first_kept, landed_in, passed_in, restarted_machine, sampled_flight, tested_machine}
use Rattle.sl_world_state.specs.Inputs.{done_in, input_for, input_in, ok_in, own_in, rest_in}
use Rattle.sl_world_state.specs.KeptWorld.{FlightState, KeptState, MachineState, change_machine_in, flight_in, flight_of_machine, machine_in}
use Rattle.sl_world_state.specs.Refusals.{is_shaped_in, left_in, writes_in, needs_running, on_flight_in, on_kept, pass_tests_in, reads_in, refusal_in, tests_in}
use Rattle.sl_world_state.specs.SaneWorlds.{WorldStands}
use Rattle.sl_world_state.specs.ShownWorlds.{shown}
use Rattle.sl_world_state.specs.Steps.{stepped_kept, taken_kept}
use Rattle.sl_world_law.proofs.AllowedEvents.{open_test}
use Rattle.sl_world_law.proofs.TestLists.{Tests}
use Rattle.sl_words.proofs.Lists.{find_inside}
use Rattle.sl_words.proofs.Options.{some_there}
use Rattle.sl_run.specs.Inputs.{machine_of}
use Rattle.sl_run.specs.Worlds.{World, first_that}
use Rattle.sl_run.specs.declared.event.Event.TheVariants.{AnswerCall, Crash, Do, DropWrite, GiveAsk, GiveCommand, GiveLvm, Land, Pass, Restart, Sample, SpawnedOf, Test, WakeUp}
use Rattle.sl_run.specs.declared.event.Event.{Event}
use Rattle.sl_run.specs.declared.event.Refusal.TheVariants.{MissingCall, MissingDaemon, MissingLanding, MissingLvm, MissingMachine, MissingPlace, MissingSample, MissingSpawn, Syntax}
use Rattle.sl_run.specs.declared.event.Refusal.{Refusal}
use Rattle.sl_run.specs.declared.header.Header.{Header}
use Rattle.sl_text.specs.Forms.{Form}
use Rattle.sl_trace.specs.Traces.{Setting, Trace, no_effects}
use Rattle.sl_trace.specs.declared.command.Command.{Command}
use Rattle.sl_trace.specs.declared.effects.Effects.{Effects}
use Rattle.sl_trace.specs.declared.input.Answer.TheVariants.{Failed, Read, Written}
use Rattle.sl_trace.specs.declared.input.Input.TheVariants.{Answer as Told, Line, Number, Spawned, Wake}
use Rattle.sl_trace.specs.declared.input.Input.{Input}
use Rattle.sl_world.proofs.GivenSteps.{not_false}
use Rattle.sl_world.specs.AllowedEvents.{AllCome, IsAllowed, MayGive}
use Rattle.sl_world.specs.GivenSteps.{HasSampled, IsGiven}
use Rattle.sl_words.proofs.CaseLaws.{none_some}
use Rattle.sl_words.specs.Words.{choose}
use Rattle.sl_world_law.proofs.DirectChanges.{quiet_events}
use Rattle.sl_world_law.proofs.EventsStand.{steps_are_ready, steps_stand}
use Rattle.sl_world_law.proofs.OwnEvents.{ends_stand, own_stands}
use Rattle.sl_world_law.specs.WorldsStand.{Comes, IsReady, begins_or_ends}
use Rattle.std.proofs.Common.{ap, ap₂, arith, refl, subst, sym, ◌∙◌}
use Rattle.std.proofs.lemmas.Bool.Decides.{Decides-eqb, nat_tests}
use Rattle.std.proofs.lemmas.List.{length-map}
use Rattle.std.proofs.lemmas.Option.{slice_get_within}
use Rattle.std.specs.List.{list_any}
use Rattle.std.specs.Option.{option_map_or}
use Rattle.std.specs.Prelude.{Bool, List, None, Option, Some, false, if◌then◌else◌, is_none, is_some, length, nat_lt, not, option_and_then, option_map, slice_get, slice_set, true, [], ℕ, ◌&&◌, ◌-◌, ◌<◌, ◌==◌, ◌∷◌, ◌≡◌, ◌≤◌, ◌||◌}

-- ---- no test holds

pub unrefused : (commands : Header → List (Form Command)) (k : KeptState) (e : Event) → refusal_in commands k e ≡ None → first_that (tests_in commands k e) ≡ None
unrefused commands k e none = (open_test (not (is_shaped_in k.header e)) Syntax (tests_in commands k e) none).1

abbrev some_reason : Refusal → Option Refusal
some_reason r = Some r

pub machine_there : (k : KeptState) (m : ℕ) (f : MachineState → Tests) → first_that (on_kept k m f) ≡ None → (s : MachineState) × (machine_in k m ≡ Some s) × (first_that (f s) ≡ None)
machine_there k m f h = go (machine_in k m) refl h
  where
    go : (o : Option MachineState) → machine_in k m ≡ o → first_that (elim o as (λ x. Tests) [ None ↦ (true, MissingMachine) ∷ [] | Some s ↦ f s ]) ≡ None
        → (s : MachineState) × (machine_in k m ≡ Some s) × (first_that (f s) ≡ None)
    go None at none = absurd (none_some MissingMachine (sym none))
    go (Some s) at none = (s, at, none)

-- A daemon runs where an event needs one.
runs_there : (k : KeptState) (m : ℕ) (f : MachineState → Tests) → first_that (on_kept k m (λ s. needs_running s ∷ f s)) ≡ None
    → (s : MachineState) × (machine_in k m ≡ Some s) × (s.runs ≡ true) × (first_that (f s) ≡ None)
runs_there k m f h =
    let s = machine_there k m (λ x. needs_running x ∷ f x) h in
    let t = open_test (not s.0.runs) MissingDaemon (f s.0) s.2 in
    (s.0, s.1, not_false s.0.runs t.0, t.1)

-- The call must be in flight and of the right kind.
call_there : (s : MachineState) (c : ℕ) (p : FlightState → Bool) (f : FlightState → Tests) (x : FlightState) → first_that (on_flight_in s c p f) ≡ None → flight_in s c ≡ Some x
    → (p x ≡ true) × (first_that (f x) ≡ None)
call_there s c p f x none at = kind (p x) (sym (ap (λ o. first_that (tests_by o)) at) ∙ none)
  where
    tests_by : Option FlightState → Tests
    tests_by o = elim o [ None ↦ (true, MissingCall) ∷ [] | Some y ↦ elim (p y) [ false ↦ (true, MissingCall) ∷ [] | true ↦ f y ] ]

    kind : (b : Bool) → first_that (elim b as (λ z. Tests) [ false ↦ (true, MissingCall) ∷ [] | true ↦ f x ]) ≡ None → (b ≡ true) × (first_that (f x) ≡ None)
    kind true h = (refl, h)
    kind false h = absurd (none_some MissingCall (sym h))

some_call : (s : MachineState) (c : ℕ) (p : FlightState → Bool) (f : FlightState → Tests) → first_that (on_flight_in s c p f) ≡ None → (x : FlightState) × (flight_in s c ≡ Some x)
some_call s c p f none = go (flight_in s c) refl none
  where
    go : (o : Option FlightState) → flight_in s c ≡ o
        → first_that (elim o as (λ x. Tests) [ None ↦ (true, MissingCall) ∷ [] | Some y ↦ elim (p y) as (λ z. Tests) [ false ↦ (true, MissingCall) ∷ [] | true ↦ f y ] ]) ≡ None
        → (x : FlightState) × (flight_in s c ≡ Some x)
    go None at h = absurd (none_some MissingCall (sym h))
    go (Some y) at h = (y, at)

-- ---- inputs

given_where : (k : KeptState) (e : Event) (i : Input) (s : MachineState) → machine_in k (machine_of e) ≡ Some s → input_for k e s ≡ choose s.runs i → s.runs ≡ true → input_in k e ≡ Some i
given_where k e i s at is runs = ap (option_and_then (input_for k e)) at ∙ is ∙ ap (λ b. choose b i) runs

pub wake_given : (commands : Header → List (Form Command)) (k : KeptState) (m : ℕ) → refusal_in commands k (WakeUp m) ≡ None → input_in k (WakeUp m) ≡ Some Wake
unfolding tests_in
wake_given commands k m none =
    let s = runs_there k m (λ x. []) (unrefused commands k (WakeUp m) none) in given_where k (WakeUp m) Wake s.0 s.1 refl s.2

pub command_given : (commands : Header → List (Form Command)) (k : KeptState) (m : ℕ) (text : List ℕ) → refusal_in commands k (GiveCommand m text) ≡ None
    → input_in k (GiveCommand m text) ≡ Some (Line text)
unfolding tests_in
command_given commands k m text none =
    let s = runs_there k m (λ x. (text_for_locks commands k.header text || is_some x.locks.due, MissingLvm) ∷ []) (unrefused commands k (GiveCommand m text) none) in
    given_where k (GiveCommand m text) (Line text) s.0 s.1 refl s.2

pub lvm_given : (commands : Header → List (Form Command)) (k : KeptState) (m : ℕ) (line : List ℕ) → refusal_in commands k (GiveLvm m line) ≡ None
    → input_in k (GiveLvm m line) ≡ Some (Number line)
unfolding tests_in
lvm_given commands k m line none =
    let s = runs_there k m (λ x. (is_some x.locks.line, MissingLvm) ∷ []) (unrefused commands k (GiveLvm m line) none) in
    given_where k (GiveLvm m line) (Number line) s.0 s.1 refl s.2

pub ask_given : (commands : Header → List (Form Command)) (k : KeptState) (m : ℕ) → refusal_in commands k (GiveAsk m) ≡ None → (text : List ℕ)
    → ((s : MachineState) → machine_in k m ≡ Some s → s.locks.due ≡ Some text) → input_in k (GiveAsk m) ≡ Some (Line text)
unfolding tests_in
ask_given commands k m none text due =
    let s = runs_there k m (λ x. (is_none x.locks.due, MissingLvm) ∷ []) (unrefused commands k (GiveAsk m) none) in
    given_where k (GiveAsk m) (Line text) s.0 s.1 (ap (option_and_then (λ t. choose s.0.runs (Line t))) (due s.0 s.1)) s.2

pub spawn_given : (commands : Header → List (Form Command)) (k : KeptState) (m p : ℕ) (ok : Bool) → refusal_in commands k (SpawnedOf m p ok) ≡ None
    → input_in k (SpawnedOf m p ok) ≡ Some (Spawned p ok)
unfolding tests_in
spawn_given commands k m p ok none =
    let s = runs_there k m (λ x. (not (list_any (λ q. q == p) x.starting), MissingSpawn) ∷ []) (unrefused commands k (SpawnedOf m p ok) none) in
    given_where k (SpawnedOf m p ok) (Spawned p ok) s.0 s.1 refl s.2

-- ---- what a step makes

pub may_give : {D : Type 0} (commands : Header → List (Form Command)) (stands : D → Setting → Trace → Type 0) (k : KeptState) (hosts : List (Option D)) (e : Event) (i : Input)
    → IsAllowed commands stands k hosts e → (refusal_in commands k e ≡ None → input_in k e ≡ Some i) → MayGive stands k hosts (machine_of e) i
may_give commands stands k hosts e i a gives =
    record { ready = λ left. steps_are_ready commands stands k hosts a.world a.stands_for e a.unrefused i (gives a.unrefused) left }

-- What is kept then may be said in another way.
pub given_comes : {D : Type 0} (commands : Header → List (Form Command)) (stands : D → Setting → Trace → Type 0) (makes : D → Most) (k : KeptState) (hosts : List (Option D)) (e : Event)
    (i : Input) (fx : Effects) (after later : KeptState) (running : List (Option D)) → IsAllowed commands stands k hosts e → (refusal_in commands k e ≡ None → input_in k e ≡ Some i)
    → IsGiven stands makes k hosts (machine_of e) i after running fx → stepped_kept e fx k ≡ later → AllCome commands stands k hosts e later running fx
given_comes commands stands makes k hosts e i fx after later running a gives g is w t =
    let none = a.unrefused in
    let r : IsReady stands k hosts (machine_of e) i = steps_are_ready commands stands k hosts w t e none i (gives none) g.numbers in
    subst (λ x. Comes commands stands w e fx x running) is
    (subst (λ x. Comes commands stands w e fx (stepped_kept e fx k) x) (sym g.hosts_are)
    (steps_stand commands stands k hosts w t e none i (gives none) g.numbers r.machine r.there r.host g.next r.runs (makes r.host) fx (g.goes r.host r.machine r.runs r.there)))

-- Where the event changes nothing before the step.
pub simply_comes : {D : Type 0} (commands : Header → List (Form Command)) (stands : D → Setting → Trace → Type 0) (makes : D → Most) (k : KeptState) (hosts : List (Option D)) (e : Event)
    (i : Input) (fx : Effects) (after : KeptState) (running : List (Option D)) → IsAllowed commands stands k hosts e → (refusal_in commands k e ≡ None → input_in k e ≡ Some i)
    → first_kept e k ≡ k → IsGiven stands makes k hosts (machine_of e) i after running fx → AllCome commands stands k hosts e after running fx
simply_comes commands stands makes k hosts e i fx after running a gives first g =
    given_comes commands stands makes k hosts e i fx after after running a gives g
    (ap₂ (λ o x. taken_kept (machine_of e) o fx x) (gives a.unrefused) first ∙ sym g.kept)

pub first_wake : (k : KeptState) (m : ℕ) → first_kept (WakeUp m) k ≡ k
unfolding first_kept
first_wake k m = refl

pub first_command : (k : KeptState) (m : ℕ) (text : List ℕ) → first_kept (GiveCommand m text) k ≡ k
unfolding first_kept
first_command k m text = refl

pub first_lvm : (k : KeptState) (m : ℕ) (line : List ℕ) → first_kept (GiveLvm m line) k ≡ k
unfolding first_kept
first_lvm k m line = refl

pub first_ask : (k : KeptState) (m : ℕ) → first_kept (GiveAsk m) k ≡ k
unfolding first_kept
first_ask k m = refl

pub first_spawned : (k : KeptState) (m p : ℕ) (ok : Bool) → first_kept (SpawnedOf m p ok) k ≡ k
unfolding first_kept
first_spawned k m p ok = refl

-- ---- what neither a daemon nor the machine does

pub quietly_comes : {D : Type 0} (commands : Header → List (Form Command)) (stands : D → Setting → Trace → Type 0) (k : KeptState) (hosts : List (Option D)) (e : Event)
    (after : KeptState) → IsAllowed commands stands k hosts e → input_in k e ≡ None → own_in k e ≡ no_effects → begins_or_ends e ≡ false → after ≡ first_kept e k
    → AllCome commands stands k hosts e after hosts no_effects
quietly_comes commands stands k hosts e after a none quiet others is w t =
    subst (λ x. Comes commands stands w e no_effects x hosts) (sym is)
    (subst (λ x. Comes commands stands w e no_effects x hosts) (quiet_events k e none quiet)
    (subst (λ fx. Comes commands stands w e fx (stepped_kept e (own_in k e) k) hosts) quiet (own_stands commands stands k hosts w t e a.unrefused none others)))

-- ---- events of no daemon

abbrev no_one : MachineState → Option Input
no_one s = None

pub no_input : (o : Option MachineState) → option_and_then no_one o ≡ None
no_input None = refl
no_input (Some s) = refl

abbrev nothing : MachineState → Effects
nothing s = no_effects

pub no_own : (o : Option MachineState) → option_map_or nothing o no_effects ≡ no_effects
no_own None = refl
no_own (Some s) = refl

pub first_test : (k : KeptState) (m : ℕ) → first_kept (Test m) k ≡ change_machine_in m (tested_machine k.moment) k
unfolding first_kept
first_test k m = refl

pub first_restart : (k : KeptState) (m : ℕ) → first_kept (Restart m) k ≡ change_machine_in m (restarted_machine k.moment) k
unfolding first_kept
first_restart k m = refl

pub first_drop : (k : KeptState) (m c : ℕ) → first_kept (DropWrite m c) k ≡ change_machine_in m (change_flight c dropped_flight) k
unfolding first_kept
first_drop k m c = refl

pub first_pass : (k : KeptState) (d : ℕ) (gs : Option (List ℕ)) → first_kept (Pass d gs) k ≡ passed_in d gs k
unfolding first_kept
first_pass k d gs = refl

pub first_land : (k : KeptState) (m c : ℕ) → first_kept (Land m c) k ≡ landed_in m c k
unfolding first_kept
first_land k m c = refl

pub first_sample : (k : KeptState) (m c n : ℕ) → first_kept (Sample m c n) k ≡ change_machine_in m (change_flight c (sampled_flight k n)) k
unfolding first_kept
first_sample k m c n = refl

pub first_crash : (k : KeptState) (m : ℕ) → first_kept (Crash m) k ≡ change_machine_in m crashed_machine k
unfolding first_kept
first_crash k m = refl

-- Time may pass so.
pub pass_allowed : (commands : Header → List (Form Command)) (k : KeptState) (d : ℕ) (gs : Option (List ℕ)) → refusal_in commands k (Pass d gs) ≡ None
    → first_that (pass_tests_in k d gs) ≡ None
unfolding tests_in
pass_allowed commands k d gs none = unrefused commands k (Pass d gs) none

-- So many sectors are left.
pub sample_allowed : (commands : Header → List (Form Command)) (k : KeptState) (m c n : ℕ) → refusal_in commands k (Sample m c n) ≡ None → (f : FlightState)
    → flight_of_machine k m c ≡ Some f → n ≤ left_in f
unfolding tests_in
sample_allowed commands k m c n none f found =
    let last : FlightState → Tests = λ x. (is_none x.place, MissingPlace) ∷ (nat_lt (left_in x) n, MissingSample) ∷ [] in
    let s = runs_there k m (λ x. on_flight_in x c reads_in last) (unrefused commands k (Sample m c n) none) in
    let there : flight_in s.0 c ≡ Some f = sym (ap (option_and_then (λ (x : MachineState). flight_in x c)) s.1) ∙ found in
    let t = call_there s.0 c reads_in last f s.3 there in
    not_below (left_in f) n (open_test (nat_lt (left_in f) n) MissingSample [] (open_test (is_none f.place) MissingPlace ((nat_lt (left_in f) n, MissingSample) ∷ []) t.1).1).0
  where
    not_below : (a b : ℕ) → nat_lt a b ≡ false → b ≤ a
    not_below a b h = grind (arith, nat_tests, h)

-- ---- ends

pub ended_comes : {D : Type 0} (commands : Header → List (Form Command)) (stands : D → Setting → Trace → Type 0) (k : KeptState) (hosts running : List (Option D)) (m : ℕ) (after : KeptState)
    → IsAllowed commands stands k hosts (Crash m) → after ≡ change_machine_in m crashed_machine k → running ≡ slice_set hosts (m - 1) None
    → AllCome commands stands k hosts (Crash m) after running no_effects
ended_comes commands stands k hosts running m after a is ended w t =
    subst (λ y. Comes commands stands w (Crash m) no_effects after y) (sym ended)
    (subst (λ x. Comes commands stands w (Crash m) no_effects x (slice_set hosts (m - 1) None)) (sym (is ∙ sym (first_crash k m)))
    (subst (λ x. Comes commands stands w (Crash m) no_effects x (slice_set hosts (m - 1) None)) (quiet_events k (Crash m) (no_input (machine_in k m)) (no_own (machine_in k m)))
    (subst (λ fx. Comes commands stands w (Crash m) fx (stepped_kept (Crash m) (own_in k (Crash m)) k) (slice_set hosts (m - 1) None)) (no_own (machine_in k m))
    ((ends_stand commands stands).crashes m k hosts w t a.unrefused))))

-- The place of a machine that there is.
pub seat_there : {D : Type 0} (commands : Header → List (Form Command)) (stands : D → Setting → Trace → Type 0) (k : KeptState) (hosts : List (Option D)) (m : ℕ) (s : MachineState) (w : World)
    → WorldStands commands stands k hosts w → machine_in k m ≡ Some s → (m - 1 < length hosts) × (1 ≤ m)
seat_there commands stands k hosts m s w t at =
    let p = at_if (m == 0) (slice_get k.machines (m - 1)) s at in
    (subst (λ n. m - 1 < n) (ap length (sym t.tells.machines) ∙ length-map w.machines (shown w.header) ∙ sym t.counted) (slice_get_within k.machines (m - 1) s p.1), above m p.0)
  where
    at_if : {A : Type 0} (b : Bool) (o : Option A) (a : A) → (if b then None else o) ≡ Some a → (b ≡ false) × (o ≡ Some a)
    at_if true o a h = absurd (none_some a h)
    at_if false o a h = (refl, h)

    above : (n : ℕ) → (n == 0) ≡ false → 1 ≤ n
    above n h = grind (arith, nat_tests, h)

pub crash_there : (commands : Header → List (Form Command)) (k : KeptState) (m : ℕ) → refusal_in commands k (Crash m) ≡ None → (s : MachineState) × (machine_in k m ≡ Some s)
unfolding tests_in
crash_there commands k m none = let s = runs_there k m (λ x. []) (unrefused commands k (Crash m) none) in (s.0, s.1)

-- ---- answers

-- The call that is answered, or done: it is the running daemon's.
pub record Called (k : KeptState) (m c : ℕ) (e : Event) : Type 0 where
  pub flight : FlightState
  pub found : flight_of_machine k m c ≡ Some flight
  pub number : flight.number ≡ c
  pub gives : input_in k e ≡ option_and_then (λ s. input_for k e s) (machine_in k m)
  pub machine : MachineState
  pub there : machine_in k m ≡ Some machine
  pub here : flight_in machine c ≡ Some flight

called : (k : KeptState) (m c : ℕ) (e : Event) → machine_of e ≡ m → (p : FlightState → Bool) (f : FlightState → Tests)
    → first_that (on_kept k m (λ s. needs_running s ∷ on_flight_in s c p f)) ≡ None → Called k m c e
called k m c e same p f h =
    let s = runs_there k m (λ x. on_flight_in x c p f) h in
    let x = some_call s.0 c p f s.3 in
    record {
      flight = x.0;
      found = ap (option_and_then (λ (y : MachineState). flight_in y c)) s.1 ∙ x.1;
      number = (Decides-eqb x.0.number c).0 (find_inside (λ (y : FlightState). y.number == c) s.0.flights x.0 x.1).1;
      gives = ap (λ n. option_and_then (input_for k e) (machine_in k n)) same;
      machine = s.0;
      there = s.1;
      here = x.1;
    }

pub answer_called : (commands : Header → List (Form Command)) (k : KeptState) (m c : ℕ) (ok : Bool) → refusal_in commands k (AnswerCall m c ok) ≡ None → Called k m c (AnswerCall m c ok)
unfolding tests_in
answer_called commands k m c ok none =
    called k m c (AnswerCall m c ok) refl (λ f. f.own)
    (λ f. (ok && reads_in f && nat_lt 0 (left_in f), MissingSample) ∷ (ok && writes_in f && not f.landed, MissingLanding) ∷ []) (unrefused commands k (AnswerCall m c ok) none)

pub do_called : (commands : Header → List (Form Command)) (k : KeptState) (m c : ℕ) → refusal_in commands k (Do m c) ≡ None → Called k m c (Do m c)
unfolding tests_in
do_called commands k m c none =
    called k m c (Do m c) refl (λ f. f.own) (λ f. (is_none f.place, MissingPlace) ∷ (f.torn, MissingLanding) ∷ []) (unrefused commands k (Do m c) none)

pub fail_given : (commands : Header → List (Form Command)) (k : KeptState) (m c : ℕ) → refusal_in commands k (AnswerCall m c false) ≡ None
    → input_in k (AnswerCall m c false) ≡ Some (Told c Failed)
fail_given commands k m c none =
    let x = answer_called commands k m c false none in
    ap (option_and_then (input_for k (AnswerCall m c false))) x.there ∙ ap (option_map (λ (f : FlightState). Told c Failed)) x.here

-- What is told of a call, by what is gathered of it.
abbrev pub told_by : ℕ → Option (List ℕ) → Input
told_by n None = Told n Written
told_by n (Some bytes) = Told n (Read bytes)

told_is : (f : FlightState) (c : ℕ) (bytes : List ℕ) (given : Option (List ℕ)) → f.number ≡ c → HasSampled f bytes given
    → elim f.write as (λ x. Input) [ None ↦ Told f.number (Read bytes) | Some whole ↦ Told f.number Written ] ≡ told_by c given
told_is f c bytes None number writes =
    let w = some_there f.write writes in
    ap (λ (o : Option (List ℕ)). elim o as (λ x. Input) [ None ↦ Told f.number (Read bytes) | Some whole ↦ Told f.number Written ]) w.1 ∙ ap (λ n. Told n Written) number
told_is f c bytes (Some b) number has =
    ap (λ (o : Option (List ℕ)). elim o as (λ x. Input) [ None ↦ Told f.number (Read bytes) | Some whole ↦ Told f.number Written ]) has.0
    ∙ ap₂ (λ n y. Told n (Read y)) number (sym has.1)

pub answer_given : (commands : Header → List (Form Command)) (k : KeptState) (m c : ℕ) (given : Option (List ℕ))
    → ((f : FlightState) → flight_of_machine k m c ≡ Some f → HasSampled f f.sampled given) → refusal_in commands k (AnswerCall m c true) ≡ None
    → input_in k (AnswerCall m c true) ≡ Some (told_by c given)
answer_given commands k m c given has none =
    let x = answer_called commands k m c true none in
    ap (option_and_then (input_for k (AnswerCall m c true))) x.there ∙ ap (option_map ok_in) x.here
    ∙ ap Some (told_is x.flight c x.flight.sampled given x.number (has x.flight x.found))

pub do_given : (commands : Header → List (Form Command)) (k : KeptState) (m c : ℕ) (given : Option (List ℕ))
    → ((f : FlightState) → flight_of_machine k m c ≡ Some f → HasSampled f (rest_in k f (left_in f)) given) → refusal_in commands k (Do m c) ≡ None
    → input_in k (Do m c) ≡ Some (told_by c given)
do_given commands k m c given has none =
    let x = do_called commands k m c none in
    ap (option_and_then (input_for k (Do m c))) x.there ∙ ap (option_map (done_in k)) x.here
    ∙ ap Some (told_is x.flight c (rest_in k x.flight (left_in x.flight)) given x.number (has x.flight x.found))

pub first_answer : (k : KeptState) (m c : ℕ) (ok : Bool) → first_kept (AnswerCall m c ok) k ≡ k
unfolding first_kept
first_answer k m c ok = refl
