-- What an event gives a daemon answers what it has asked.
use Rattle.sl_area.specs.AreaSizes.{Layout}
use Rattle.sl_world_state.specs.SaneWorlds.{IsSane, IsSaneMachine}
use Rattle.sl_world_law.proofs.AllowedEvents.{allowed, flight_allowed, machine_allowed, open_test}
use Rattle.sl_world_law.proofs.Lookups.{flight_inside, machine_place}
use Rattle.sl_world_law.proofs.TestLists.{Tests}
use Rattle.sl_words.proofs.Lists.{any_of, contains_map, find_inside, in_map, kept}
use Rattle.sl_words.proofs.Numbers.{number_itself, refl_le}
use Rattle.sl_words.proofs.Options.{mapped_value, then_value}
use Rattle.sl_run.specs.Inputs.{done_input, if_running, input_at, machine_of, ok_input, rest_sampled}
use Rattle.sl_run.specs.Refusals.{event_tests, has_start, is_placed, is_read_course, may_happen, on_flight, sectors_left, sectors_of}
use Rattle.sl_run.specs.EventChanges.{sample_at, sampled_more}
use Rattle.sl_run.specs.Worlds.{Course, Daemon, Machine, World, flight_of, flights, is_landed, is_of_running, is_open, is_torn_fate, is_write_course, machine_at, next_numbers, sector_size}
use Rattle.sl_run.specs.declared.event.Event.TheVariants.{AnswerCall, Do, ExitOf, GiveAsk, GiveCommand, GiveLvm, SpawnedOf, WakeUp}
use Rattle.sl_run.specs.declared.event.Event.{Event}
use Rattle.sl_run.specs.declared.event.Refusal.TheVariants.{MissingDaemon, MissingLanding, MissingPlace, MissingSample, MissingSpawn}
use Rattle.sl_run.specs.declared.header.Header.{Header}
use Rattle.sl_world_law.proofs.SaneSectors.{sampled_size}
use Rattle.sl_world_law.proofs.SaneSteps.{runs_inside}
use Rattle.sl_world_law.specs.SaneInputs.{HasNumbers, InputsMayCome}
use Rattle.sl_text.specs.Forms.{Form}
use Rattle.sl_trace.specs.Traces.{Setting, Submitted, Trace, is_answer_for, is_expected, is_starting, is_write, next_call, next_job, outstanding}
use Rattle.sl_trace.specs.declared.command.Command.{Command}
use Rattle.sl_trace.specs.declared.effects.Call.{Call}
use Rattle.sl_trace.specs.declared.effects.Op.TheVariants.{ReadSectors, WriteRecord}
use Rattle.sl_trace.specs.declared.effects.Op.{Op}
use Rattle.sl_trace.specs.declared.input.Answer.TheVariants.{Failed, Read, Written}
use Rattle.sl_trace.specs.declared.input.Answer.{Answer}
use Rattle.sl_trace.specs.declared.input.Input.TheVariants.{Answer as Told, Exit, Line, Number, Spawned, Wake}
use Rattle.sl_trace.specs.declared.input.Input.{Input}
use Rattle.sl_words.proofs.CaseLaws.{none_some, one_value, true_is_false}
use Rattle.sl_words.proofs.WordLaws.{and_true, choose_some}
use Rattle.sl_words.specs.Words.{some_is}
use Rattle.std.proofs.Common.{ap, ap₂, arith, refl, subst, sym, ◌∙◌}
use Rattle.std.proofs.lemmas.Bool.Decides.{Decides-eqb, nat_tests}
use Rattle.std.proofs.lemmas.Bool.{and_from}
use Rattle.std.proofs.lemmas.List.FromFn.{length-map-range_with_len}
use Rattle.std.proofs.lemmas.List.{length-append}
use Rattle.std.specs.List.{range_with_len}
use Rattle.std.specs.Prelude.{Bool, Contains, List, Option, Some, false, filter, is_none, is_some, length, map, nat_lt, not, true, [], ℕ, ◌&&◌, ◌*◌, ◌+◌, ◌-◌, ◌==◌, ◌∷◌, ◌≡◌, ◌≤◌}

-- ---- a call of the daemon that runs

-- It has no answer in the daemon's trace.
asked : (w : World) (a : Machine) (d : Daemon) → IsSaneMachine w a → a.daemon ≡ Some d → (x : Course) → Contains (flights a) x → is_of_running a x ≡ true
    → (m : Submitted) × Contains (outstanding d.trace) m × (m.call ≡ x.call)
asked w a d is runs x inside own =
    in_map (λ (m : Submitted). m.call) (outstanding d.trace) x.call
    (subst (λ cs. Contains cs x.call) (sym (is.open_calls d runs))
    (contains_map (λ (c : Course). c.call) (filter (is_of_running a) (flights a)) x (kept (is_of_running a) (flights a) x own inside)))

-- An answer of its number that fits it is expected.
answer_comes : (w : World) (a : Machine) (d : Daemon) → IsSaneMachine w a → a.daemon ≡ Some d → (x : Course) → Contains (flights a) x → is_of_running a x ≡ true
    → (n : ℕ) (answer : Answer) → (x.call.number == n) ≡ true → is_answer_for d.setting answer x.call.op ≡ true → is_expected d.setting d.trace (Told n answer) ≡ true
answer_comes w a d is runs x inside own n answer number fits =
    let m = asked w a d is runs x inside own in
    any_of (λ (y : Submitted). y.call.number == n && is_answer_for d.setting answer y.call.op) (outstanding d.trace) m.0
    (subst (λ (c : Call). (c.number == n && is_answer_for d.setting answer c.op) ≡ true) (sym m.2)
    (and_from (x.call.number == n) (is_answer_for d.setting answer x.call.op) number fits)) m.1

-- ---- answers that fit

no_more_left : (a b : ℕ) → b ≤ a → nat_lt 0 (a - b) ≡ false → b ≡ a
no_more_left a b le none = grind (arith, nat_tests, le, none)

all_at_last : (a b : ℕ) → b ≤ a → b + (a - b) ≡ a
all_at_last a b le = omega (arith, le)

reads_fit : (st : Setting) (w : World) (op : Op) (n : ℕ) (bytes : List ℕ) (size has : ℕ) → op ≡ ReadSectors n → st.layout.sector ≡ size → length bytes ≡ has * size → has ≡ n
    → is_answer_for st (Read bytes) op ≡ true
reads_fit st w op n bytes size has is layout whole all =
    ap (is_answer_for st (Read bytes)) is
    ∙ (Decides-eqb (length bytes) (n * st.layout.sector)).1 (whole ∙ ap₂ (λ x y. x * y) all (sym layout))

and_parts : (a b : Bool) → a ≡ true → (a && b) ≡ false → b ≡ false
and_parts true b h k = k
and_parts false b h k = absurd (true_is_false (sym h))

-- A call as it stands, where nothing is left to sample.
ok_comes : (w : World) (a : Machine) (d : Daemon) → IsSaneMachine w a → a.daemon ≡ Some d → d.setting.layout.sector ≡ sector_size w → (x : Course) → Contains (flights a) x
    → is_of_running a x ≡ true → (is_read_course x && nat_lt 0 (sectors_left x)) ≡ false → is_expected d.setting d.trace (ok_input x) ≡ true
ok_comes w a d is runs layout x inside own left = go x.call.op refl
  where
    go : (op : Op) → x.call.op ≡ op
        → is_expected d.setting d.trace (elim op as (λ z. Input) [ ReadSectors n ↦ Told x.call.number (Read x.sampled) | WriteRecord r ↦ Told x.call.number Written ]) ≡ true
    go (ReadSectors n) op =
        let old = is.reads x inside in
        let few = subst (λ o. length x.samples ≤ sectors_of o) op old.1 in
        let none : nat_lt 0 (n - length x.samples) ≡ false =
        subst (λ o. nat_lt 0 (sectors_of o - length x.samples) ≡ false) op (and_parts (is_read_course x) (nat_lt 0 (sectors_left x)) (ap (λ o. not (is_write o)) op) left) in
        answer_comes w a d is runs x inside own x.call.number (Read x.sampled) (number_itself x.call.number)
        (reads_fit d.setting w x.call.op n x.sampled (sector_size w) (length x.samples) op layout old.0 (no_more_left n (length x.samples) few none))
    go (WriteRecord r) op =
        answer_comes w a d is runs x inside own x.call.number Written (number_itself x.call.number) (ap (is_answer_for d.setting Written) op)

-- A call once the rest of it is sampled.
done_comes : {commands : Header → List (Form Command)} → (w : World) → IsSane commands w → (a : Machine) (d : Daemon) → IsSaneMachine w a → a.daemon ≡ Some d
    → d.setting.layout.sector ≡ sector_size w → (x : Course) → Contains (flights a) x → is_of_running a x ≡ true → is_expected d.setting d.trace (done_input w x) ≡ true
done_comes w all a d is runs layout x inside own = go x.call.op refl
  where
    rest : List ℕ
    rest = rest_sampled w x (sectors_left x)

    go : (op : Op) → x.call.op ≡ op
        → is_expected d.setting d.trace (elim op as (λ z. Input) [ ReadSectors n ↦ Told x.call.number (Read rest) | WriteRecord r ↦ Told x.call.number Written ]) ≡ true
    go (ReadSectors n) op =
        let old = is.reads x inside in
        let whole = (sampled_size w all (sectors_left x) x (refl_le (sectors_left x)) old).0 in
        let count : length (sampled_more w (sectors_left x) x).samples ≡ n =
        length-append x.samples (map (sample_at w x.call) (range_with_len (length x.samples) (sectors_left x)))
        ∙ ap (λ j. length x.samples + j) (length-map-range_with_len (sample_at w x.call) (length x.samples) (sectors_left x))
        ∙ all_at_last (sectors_of x.call.op) (length x.samples) old.1 ∙ ap sectors_of op in
        answer_comes w a d is runs x inside own x.call.number (Read rest) (number_itself x.call.number)
        (reads_fit d.setting w x.call.op n rest (sector_size w) (length (sampled_more w (sectors_left x) x).samples) op layout whole count)
    go (WriteRecord r) op =
        answer_comes w a d is runs x inside own x.call.number Written (number_itself x.call.number) (ap (is_answer_for d.setting Written) op)

number_of : (a : Machine) (c : ℕ) (x : Course) → flight_of a c ≡ Some x → (x.call.number == c) ≡ true
number_of a c x at =
    (and_true (x.call.number == c) (is_open a x) (find_inside (λ (y : Course). y.call.number == c && is_open a y) a.calls x at).1).0

-- ---- what an event gives

-- The call of an answer: it is the running daemon's.
answered_call : (w : World) (m c : ℕ) (ok : Bool) → may_happen w (AnswerCall m c ok) ≡ true → (a : Machine) → machine_at w m ≡ Some a → (x : Course) → flight_of a c ≡ Some x
    → (is_of_running a x ≡ true) × ((ok && is_read_course x && nat_lt 0 (sectors_left x)) ≡ false)
unfolding event_tests
answered_call w m c ok may a at x there =
    let inner : Course → Tests = λ f. (ok && is_read_course f && nat_lt 0 (sectors_left f), MissingSample) ∷ (ok && is_write_course f && not (is_landed f.fate), MissingLanding) ∷ [] in
    let here = machine_allowed w m (λ b. (is_none b.daemon, MissingDaemon) ∷ on_flight b c (is_of_running b) inner) a (allowed w (AnswerCall m c ok) may) at in
    let call = flight_allowed a c (is_of_running a) inner x (open_test (is_none a.daemon) MissingDaemon (on_flight a c (is_of_running a) inner) here).1 there in
    (call.0, (open_test (ok && is_read_course x && nat_lt 0 (sectors_left x)) MissingSample ((ok && is_write_course x && not (is_landed x.fate), MissingLanding) ∷ []) call.1).0)

done_call : (w : World) (m c : ℕ) → may_happen w (Do m c) ≡ true → (a : Machine) → machine_at w m ≡ Some a → (x : Course) → flight_of a c ≡ Some x → is_of_running a x ≡ true
unfolding event_tests
done_call w m c may a at x there =
    let inner : Course → Tests = λ f. (not (is_placed w f.call), MissingPlace) ∷ (is_torn_fate f.fate, MissingLanding) ∷ [] in
    let here = machine_allowed w m (λ b. (is_none b.daemon, MissingDaemon) ∷ on_flight b c (is_of_running b) inner) a (allowed w (Do m c) may) at in
    (flight_allowed a c (is_of_running a) inner x (open_test (is_none a.daemon) MissingDaemon (on_flight a c (is_of_running a) inner) here).1 there).0

started_child : (w : World) (m p : ℕ) (ok : Bool) → may_happen w (SpawnedOf m p ok) ≡ true → (a : Machine) → machine_at w m ≡ Some a → (d : Daemon) → a.daemon ≡ Some d
    → is_starting d.trace p ≡ true
unfolding event_tests
started_child w m p ok may a at d runs =
    let last : Machine → Tests = λ b. (not (has_start b p), MissingSpawn) ∷ [] in
    let here = machine_allowed w m (λ b. (is_none b.daemon, MissingDaemon) ∷ last b) a (allowed w (SpawnedOf m p ok) may) at in
    let there = (open_test (not (has_start a p)) MissingSpawn [] (open_test (is_none a.daemon) MissingDaemon (last a) here).1).0 in
    sym (ap (λ (o : Option Daemon). some_is (λ (x : Daemon). is_starting x.trace p) o) runs) ∙ not_false (has_start a p) there
  where
    not_false : (b : Bool) → not b ≡ false → b ≡ true
    not_false true h = refl
    not_false false h = absurd (true_is_false h)

-- An input of which nothing is expected.
free : (st : Setting) (es : Trace) (b : Bool) (i j : Input) → Rattle.sl_words.specs.Words.choose b i ≡ Some j → is_expected st es i ≡ true → is_expected st es j ≡ true
free st es b i j gives is = subst (λ z. is_expected st es z ≡ true) (choose_some b i j gives).1 is

expected : {commands : Header → List (Form Command)} → (w : World) → IsSane commands w → (e : Event) → may_happen w e ≡ true → (a : Machine) (d : Daemon)
    → machine_at w (machine_of e) ≡ Some a → a.daemon ≡ Some d → IsSaneMachine w a → d.setting.layout.sector ≡ sector_size w → (i : Input) → input_at w e a ≡ Some i
    → is_expected d.setting d.trace i ≡ true
expected w all (WakeUp m) may a d at runs is layout i gives = free d.setting d.trace (is_some a.daemon) Wake i gives refl
expected w all (GiveCommand m text) may a d at runs is layout i gives = free d.setting d.trace (is_some a.daemon) (Line text) i gives refl
expected w all (GiveLvm m line) may a d at runs is layout i gives = free d.setting d.trace (is_some a.daemon) (Number line) i gives refl
expected w all (GiveAsk m) may a d at runs is layout i gives =
    let text = then_value (λ x. if_running a (Line x)) a.locks.due i gives in free d.setting d.trace (is_some a.daemon) (Line text.0) i text.2 refl
expected w all (ExitOf m p) may a d at runs is layout i gives = free d.setting d.trace (is_some a.daemon) (Exit p) i gives refl
expected w all (SpawnedOf m p ok) may a d at runs is layout i gives =
    free d.setting d.trace (is_some a.daemon) (Spawned p ok) i gives (started_child w m p ok may a at d runs)
expected w all (AnswerCall m c true) may a d at runs is layout i gives =
    let x = mapped_value ok_input (flight_of a c) i gives in
    let ok = answered_call w m c true may a at x.0 x.1 in
    subst (λ z. is_expected d.setting d.trace z ≡ true) x.2 (ok_comes w a d is runs layout x.0 (flight_inside a c x.0 x.1) ok.0 ok.1)
expected w all (AnswerCall m c false) may a d at runs is layout i gives =
    let x = mapped_value (λ (f : Course). Told c Failed) (flight_of a c) i gives in
    subst (λ z. is_expected d.setting d.trace z ≡ true) x.2
    (answer_comes w a d is runs x.0 (flight_inside a c x.0 x.1) (answered_call w m c false may a at x.0 x.1).0 c Failed (number_of a c x.0 x.1) refl)
expected w all (Do m c) may a d at runs is layout i gives =
    let x = mapped_value (done_input w) (flight_of a c) i gives in
    subst (λ z. is_expected d.setting d.trace z ≡ true) x.2 (done_comes w all a d is runs layout x.0 (flight_inside a c x.0 x.1) (done_call w m c may a at x.0 x.1))
expected w all e may a d at runs is layout i gives = absurd (none_some i gives)

pub numbers_of : (a : Machine) (d : Daemon) → a.daemon ≡ Some d → next_numbers a ≡ record { call = next_call d.setting d.trace; job = next_job d.setting d.trace }
numbers_of a d runs = ap (λ (o : Option Daemon). next_numbers (record a { daemon = o })) runs

pub inputs_may_come : InputsMayCome
inputs_may_come commands w is e may i gives a d at runs left =
    let s = is.sane (machine_of e - 1) a (machine_place w (machine_of e) a at) in
    let b = then_value (input_at w e) (machine_at w (machine_of e)) i gives in
    record {
      time = s.time d runs;
      below = s.in_time.0;
      expected = expected w is e may a d at runs s
          (ap (λ (g : Layout). g.sector) (is.layouts (machine_of e - 1) a d (machine_place w (machine_of e) a at) (runs_inside a d runs))) i
          (ap (input_at w e) (one_value a b.0 (machine_at w (machine_of e)) at b.1) ∙ b.2);
      room = subst HasNumbers (numbers_of a d runs) left;
    }
