-- The input that an event gives, and what a machine does itself.
use Rattle.sl_world_state.specs.Inputs.{done_in, input_for, input_in, ok_in, own_for, rest_in}
use Rattle.sl_world_state.specs.KeptWorld.{FlightState, KeptState, MachineState, flight_in, sector_of_call}
use Rattle.sl_world_state.specs.Refusals.{left_in}
use Rattle.sl_world_state.specs.SaneWorlds.{IsSane}
use Rattle.sl_world_state.specs.ShownWorlds.{Tells, flight_of_course, is_placed_in, place_in, shown, write_in}
use Rattle.sl_world_law.proofs.AllowedEvents.{allowed, flight_allowed, machine_allowed, open_test}
use Rattle.sl_world_law.proofs.Lookups.{flight_inside, flight_shown, machine_place, machine_shown}
use Rattle.sl_world_law.proofs.Sectors.{placed_is, sector_there}
use Rattle.sl_world_law.proofs.TestLists.{Tests}
use Rattle.sl_world_law.specs.Inputs.{InputsAreKept, OwnEffectsAreKept}
use Rattle.sl_words.proofs.Numbers.{refl_le}
use Rattle.sl_run.specs.Inputs.{done_input, input_at, input_of, machine_of, ok_input, rest_sampled}
use Rattle.sl_run.specs.Refusals.{event_tests, is_placed, may_happen, on_flight, sectors_left}
use Rattle.sl_run.specs.EventChanges.{own_effects}
use Rattle.sl_run.specs.Worlds.{Course, Machine, World, content, flight_of, is_of_running, is_torn_fate, machine_at, sector_size}
use Rattle.sl_run.specs.declared.event.Event.TheVariants.{AnswerCall, Do, ExitOf, Reset}
use Rattle.sl_run.specs.declared.event.Event.{Event}
use Rattle.sl_run.specs.declared.event.Refusal.TheVariants.{MissingDaemon, MissingLanding, MissingPlace}
use Rattle.sl_run.specs.declared.header.Header.{Header}
use Rattle.sl_text.specs.Forms.{Form}
use Rattle.sl_trace.specs.Traces.{no_effects}
use Rattle.sl_trace.specs.declared.command.Command.{Command}
use Rattle.sl_trace.specs.declared.effects.Op.TheVariants.{ReadSectors, WriteRecord}
use Rattle.sl_trace.specs.declared.effects.Op.{Op}
use Rattle.sl_trace.specs.declared.input.Answer.TheVariants.{Failed, Read, Written}
use Rattle.sl_trace.specs.declared.input.Input.TheVariants.{Answer as Told}
use Rattle.sl_trace.specs.declared.input.Input.{Input}
use Rattle.sl_words.proofs.CaseLaws.{true_is_false}
use Rattle.std.proofs.Common.{ap, ap₂, arith, refl, suc, sym, zero, ◌∙◌}
use Rattle.std.specs.List.{range_with_len}
use Rattle.std.specs.Option.{option_map_or}
use Rattle.std.specs.Prelude.{Bool, List, None, Option, Some, false, flat_map, is_none, length, not, option_and_then, option_map, true, [], ℕ, ◌*◌, ◌++◌, ◌+◌, ◌-◌, ◌<◌, ◌∷◌, ◌≡◌, ◌≤◌}

-- ---- the rest of a read

flat_range : {A : Type 0} (f g : ℕ → List A) (i n : ℕ) → ((j : ℕ) → i ≤ j → j < i + n → f j ≡ g j) → flat_map f (range_with_len i n) ≡ flat_map g (range_with_len i n)
flat_range f g i zero same = refl
flat_range f g i (suc n) same =
    ap₂ (λ xs ys. xs ++ ys) (same i (omega arith) (omega arith)) (flat_range f g (i + 1) n (λ j low high. same j (omega (arith, low)) (omega (arith, high))))

not_false : (b : Bool) → not b ≡ false → b ≡ true
not_false true h = refl
not_false false h = absurd (true_is_false h)

-- What a call that lies on its disk samples next.
pub rest_here : {commands : Header → List (Form Command)} → (k : KeptState) (w : World) → Tells k w → IsSane commands w → (m : ℕ) (a : Machine) → machine_at w m ≡ Some a
    → (c : ℕ) (x : Course) → flight_of a c ≡ Some x → not (is_placed w x.call) ≡ false → (n : ℕ) → n ≤ sectors_left x
    → rest_sampled w x n ≡ rest_in k (flight_of_course w.header a x) n
rest_here k w t is m a at c x there placed n few =
    ap (λ bytes. x.sampled ++ bytes)
    (flat_range (λ i. content w x.call.path (x.call.offset + i * sector_size w)) (λ i. sector_of_call k.disks (place_in w.header x.call) i) (length x.samples) n same)
  where
    on : is_placed_in w.header x.call ≡ true
    on = sym (placed_is k w t x.call) ∙ not_false (is_placed w x.call) placed

    same : (i : ℕ) → length x.samples ≤ i → i < length x.samples + n
        → content w x.call.path (x.call.offset + i * sector_size w) ≡ sector_of_call k.disks (place_in w.header x.call) i
    same i low high =
        sector_there k w t is x.call i on ((is.sane (m - 1) a (machine_place w m a at)).calls x (flight_inside a c x there)).whole
        (let most = ((is.sane (m - 1) a (machine_place w m a at)).reads x (flight_inside a c x there)).1 in omega (arith, most, few, high))

-- ---- inputs

-- The call of an answer.
mapped : {A B C : Type 0} (f : A → C) (g : B → C) (s : A → B) (o : Option A) → ((x : A) → o ≡ Some x → f x ≡ g (s x)) → option_map f o ≡ option_map g (option_map s o)
mapped f g s None same = refl
mapped f g s (Some x) same = ap Some (same x refl)

of_flight : (h : Header) (a : Machine) (c : ℕ) (f : Course → Input) (g : FlightState → Input) → ((x : Course) → flight_of a c ≡ Some x → f x ≡ g (flight_of_course h a x))
    → option_map f (flight_of a c) ≡ option_map g (flight_in (shown h a) c)
of_flight h a c f g same = mapped f g (flight_of_course h a) (flight_of a c) same ∙ sym (ap (option_map g) (flight_shown h a c))

answered_here : (h : Header) (a : Machine) (x : Course) → ok_input x ≡ ok_in (flight_of_course h a x)
answered_here h a x = same x.call.op
  where
    same : (op : Op) → (elim op as (λ z. Input) [ ReadSectors n ↦ Told x.call.number (Read x.sampled) | WriteRecord r ↦ Told x.call.number Written ])
        ≡ (elim (write_in h op) as (λ z. Input) [ None ↦ Told x.call.number (Read x.sampled) | Some whole ↦ Told x.call.number Written ])
    same (ReadSectors n) = refl
    same (WriteRecord r) = refl

done_here : {commands : Header → List (Form Command)} → (k : KeptState) (w : World) → Tells k w → IsSane commands w → (m : ℕ) (a : Machine) → machine_at w m ≡ Some a
    → (c : ℕ) (x : Course) → flight_of a c ≡ Some x → not (is_placed w x.call) ≡ false → done_input w x ≡ done_in k (flight_of_course w.header a x)
done_here k w t is m a at c x there placed = same x.call.op
  where
    rest : rest_sampled w x (sectors_left x) ≡ rest_in k (flight_of_course w.header a x) (left_in (flight_of_course w.header a x))
    rest = rest_here k w t is m a at c x there placed (sectors_left x) (refl_le (sectors_left x))

    same : (op : Op) → (elim op as (λ z. Input) [ ReadSectors n ↦ Told x.call.number (Read (rest_sampled w x (sectors_left x))) | WriteRecord r ↦ Told x.call.number Written ])
        ≡ (elim (write_in w.header op) as (λ z. Input) [
          | None ↦ Told x.call.number (Read (rest_in k (flight_of_course w.header a x) (left_in (flight_of_course w.header a x))))
          | Some whole ↦ Told x.call.number Written
        ])
    same (ReadSectors n) = ap (λ bytes. Told x.call.number (Read bytes)) rest
    same (WriteRecord r) = refl

-- Where a call may be done it lies on its disk.
placed_to_do : (w : World) (m c : ℕ) (a : Machine) (x : Course) → may_happen w (Do m c) ≡ true → machine_at w m ≡ Some a → flight_of a c ≡ Some x
    → not (is_placed w x.call) ≡ false
unfolding event_tests
placed_to_do w m c a x may at there =
    let inner : Course → Tests = λ f. (not (is_placed w f.call), MissingPlace) ∷ (is_torn_fate f.fate, MissingLanding) ∷ [] in
    let tests : Machine → Tests = λ b. (is_none b.daemon, MissingDaemon) ∷ on_flight b c (is_of_running b) inner in
    let here = machine_allowed w m tests a (allowed w (Do m c) may) at in
    let call = flight_allowed a c (is_of_running a) inner x (open_test (is_none a.daemon) MissingDaemon (on_flight a c (is_of_running a) inner) here).1 there in
    (open_test (not (is_placed w x.call)) MissingPlace ((is_torn_fate x.fate, MissingLanding) ∷ []) call.1).0

-- What comes of a machine comes of what it shows.
of_machine : {C : Type 0} (h : Header) (f : Machine → Option C) (g : MachineState → Option C) (o : Option Machine) (q : Option MachineState) → q ≡ option_map (shown h) o
    → ((a : Machine) → o ≡ Some a → f a ≡ g (shown h a)) → option_and_then f o ≡ option_and_then g q
of_machine h f g None q is same = sym (ap (option_and_then g) is)
of_machine h f g (Some a) q is same = same a refl ∙ sym (ap (option_and_then g) is)

given : (k : KeptState) (w : World) → Tells k w → (e : Event) → ((a : Machine) → machine_at w (machine_of e) ≡ Some a → input_at w e a ≡ input_for k e (shown w.header a))
    → input_of w e ≡ input_in k e
given k w t e same = of_machine w.header (input_at w e) (input_for k e) (machine_at w (machine_of e)) _ (machine_shown k w t (machine_of e)) same

pub inputs_are_kept : InputsAreKept
unfolding shown
inputs_are_kept commands k w t is (AnswerCall m c true) may =
    given k w t (AnswerCall m c true) (λ a at. of_flight w.header a c ok_input ok_in (λ x there. answered_here w.header a x))
inputs_are_kept commands k w t is (AnswerCall m c false) may =
    given k w t (AnswerCall m c false) (λ a at. of_flight w.header a c (λ x. Told c Failed) (λ f. Told c Failed) (λ x there. refl))
inputs_are_kept commands k w t is (Do m c) may =
    given k w t (Do m c) (λ a at. of_flight w.header a c (done_input w) (done_in k)
    (λ x there. done_here k w t is m a at c x there (placed_to_do w m c a x may at there)))
inputs_are_kept commands k w t is e may = given k w t e (λ a at. refl)

owns : {C : Type 0} (h : Header) (f : Machine → C) (g : MachineState → C) (d : C) (o : Option Machine) (q : Option MachineState) → q ≡ option_map (shown h) o
    → ((a : Machine) → f a ≡ g (shown h a)) → option_map_or f o d ≡ option_map_or g q d
owns h f g d None q is same = sym (ap (λ z. option_map_or g z d) is)
owns h f g d (Some a) q is same = same a ∙ sym (ap (λ z. option_map_or g z d) is)

own_here : (h : Header) (w : World) (e : Event) (a : Machine) → own_effects w e a ≡ own_for e (shown h a)
unfolding shown
own_here h w (ExitOf m p) a = refl
own_here h w (Reset m) a = refl
own_here h w e a = refl

pub own_effects_are_kept : OwnEffectsAreKept
own_effects_are_kept k w t e =
    owns w.header (own_effects w e) (own_for e) no_effects (machine_at w (machine_of e)) _ (machine_shown k w t (machine_of e)) (own_here w.header w e)
