-- What is refused in a world is refused by what is kept of it: event by event.
use Rattle.sl_area.specs.AreaSizes.{Layout, layout_of, record_in, sector_with}
use Rattle.sl_world_state.specs.Daemons.{text_for_locks}
use Rattle.sl_world_state.specs.KeptWorld.{KeptState, MachineState, sector_of_call}
use Rattle.sl_world_state.specs.Refusals.{drifts_off, is_overdue, is_shaped_in, left_in, pass_tests_in, reads_in, reads_past, spells_in, starves, tests_in, torn_in, writes_in}
use Rattle.sl_world_state.specs.SaneWorlds.{IsSane}
use Rattle.sl_world_state.specs.ShownWorlds.{Tells, flight_of_course, is_placed_in, place_in, shown, starting_of, write_in}
use Rattle.sl_world_law.proofs.Lookups.{flight_inside, machine_place}
use Rattle.sl_world_law.proofs.NumberedLists.{any_kept, any_least, any_map, any_numbered}
use Rattle.sl_world_law.proofs.Sectors.{place_known, placed_is, sector_there}
use Rattle.sl_world_law.proofs.Starts.{numbered_apart, waits_is}
use Rattle.sl_world_law.proofs.TestLists.{Agree, front_test, last_test, same_flight, same_machine, same_tests}
use Rattle.sl_world_law.specs.Refusals.{RefusalsAreKept}
use Rattle.sl_words.proofs.Lists.{contains_first}
use Rattle.sl_words.proofs.Options.{not_none}
use Rattle.sl_run.specs.Refusals.{acts_for_locks, event_tests, has_start, is_for_locks, is_placed, is_read_course, is_shaped, sectors_left, sectors_of}
use Rattle.sl_run.specs.Premises.{clock_after, drifts, growth_of, is_late_landing, pass_tests, spells_something, torn_bytes}
use Rattle.sl_run.specs.Worlds.{Course, Daemon, Machine, Stamp, World, content, daemons_on, flight_of, is_in_flight, is_landed, is_of_running, is_open, is_torn_fate, is_write_course, machine_at, may_land, resets_after, sector_size}
use Rattle.sl_run.specs.declared.event.Event.TheVariants.{AnswerCall, Crash, Do, DropWrite, ExitOf, GiveAsk, GiveCommand, GiveLvm, Land, Pass, Reset, Restart, Sample, SpawnedOf, StartDaemon, Tear, Test, WakeUp}
use Rattle.sl_run.specs.declared.event.Event.{Event}
use Rattle.sl_run.specs.declared.event.Refusal.TheVariants.{LimitMoment, MissingDaemon, MissingFlight, MissingLanding, MissingLvm, MissingPlace, MissingReset, MissingSample, MissingSpawn, MissingUp, PremiseDrift, PremiseLanding, PremiseName, PremiseTorn, PremiseWatchdog, Syntax}
use Rattle.sl_run.specs.declared.header.Header.{Header}
use Rattle.sl_sector.specs.declared.sector.Rec.{Rec}
use Rattle.sl_text.specs.Forms.{Form}
use Rattle.sl_time.specs.Times.{reading_of}
use Rattle.sl_trace.specs.Traces.{children, first_child, is_starting, is_write}
use Rattle.sl_trace.specs.declared.command.Command.{Command}
use Rattle.sl_trace.specs.declared.effects.Op.TheVariants.{ReadSectors, WriteRecord}
use Rattle.sl_trace.specs.declared.effects.Op.{Op}
use Rattle.sl_words.proofs.CaseLaws.{false_is_true, true_is_false}
use Rattle.sl_words.proofs.WordLaws.{and_true}
use Rattle.sl_words.specs.Bounds.{moments}
use Rattle.sl_words.specs.Words.{some_is}
use Rattle.std.proofs.Common.{ap, ap₂, arith, refl, subst, sym, ◌∙◌}
use Rattle.std.proofs.lemmas.Bool.Decides.{nat_tests}
use Rattle.std.specs.List.{enumerate_from, list_any, range_with_len}
use Rattle.std.specs.Prelude.{Bool, Contains, List, None, Option, Some, drop, false, if◌then◌else◌, is_none, is_ok, is_some, length, map, nat_le, nat_lt, not, slice_get, take, true, [], ℕ, ◌%◌, ◌&&◌, ◌*◌, ◌++◌, ◌+◌, ◌-◌, ◌<◌, ◌==◌, ◌||◌, ◌∷◌, ◌≡◌}

-- ---- what is tested of a machine

not_false : (b : Bool) → not b ≡ false → b ≡ true
not_false true h = refl
not_false false h = absurd (true_is_false h)

none_not : {A : Type 0} (o : Option A) → is_none o ≡ not (is_some o)
none_not None = refl
none_not (Some a) = refl

runs_here : (h : Header) (a : Machine) → is_none a.daemon ≡ not (shown h a).runs
unfolding shown
runs_here h a = none_not a.daemon

-- The text is for lvmlockd's process.
for_locks : (commands : Header → List (Form Command)) (w : World) → IsSane commands w → (m : ℕ) (a : Machine) → machine_at w m ≡ Some a → (text : List ℕ)
    → is_none a.daemon ≡ false → acts_for_locks a text ≡ text_for_locks commands w.header text
for_locks commands w is m a at text runs =
    let d = not_none a.daemon runs in
    ap (λ (o : Option Daemon). some_is (λ x. is_for_locks (x.setting.read text)) o) d.1
    ∙ ap (λ read. is_for_locks (read text)) (is.forms (m - 1) a d.0 (machine_place w m a at) (newest a d.0 d.1))
  where
    newest : (a : Machine) (d : Daemon) → a.daemon ≡ Some d → Contains (daemons_on a) d
    newest a d runs =
        subst (λ (ds : List Daemon). Contains ds d)
        (sym (ap (λ (o : Option Daemon). elim o as (λ x. List Daemon) [ None ↦ a.ended | Some x ↦ x ∷ a.ended ]) runs)) (contains_first d a.ended)

-- Whether the start of a child waits for its answer.
starts_here : (commands : Header → List (Form Command)) (w : World) → IsSane commands w → (m : ℕ) (a : Machine) → machine_at w m ≡ Some a → (p : ℕ)
    → is_none a.daemon ≡ false → has_start a p ≡ list_any (λ q. q == p) (shown w.header a).starting
unfolding shown
starts_here commands w is m a at p runs =
    let d = not_none a.daemon runs in
    ap (λ (o : Option Daemon). some_is (λ x. is_starting x.trace p) o) d.1
    ∙ waits_is p (children d.0.trace) (numbered_apart first_child (children d.0.trace) ((is.sane (m - 1) a (machine_place w m a at)).children_numbered d.0 d.1))
    ∙ sym (ap (λ (o : Option Daemon). list_any (λ q. q == p) (starting_of o)) d.1)

-- ---- what is tested of a call

is_written : (h : Header) (op : Op) → is_some (write_in h op) ≡ is_write op
is_written h (ReadSectors n) = refl
is_written h (WriteRecord r) = refl

writes_here : (h : Header) (a : Machine) (x : Course) → is_write_course x ≡ writes_in (flight_of_course h a x)
writes_here h a x = sym (is_written h x.call.op)

reads_here : (h : Header) (a : Machine) (x : Course) → is_read_course x ≡ reads_in (flight_of_course h a x)
reads_here h a x = ap not (sym (is_written h x.call.op))

left_here : (h : Header) (a : Machine) (x : Course) → sectors_left x ≡ left_in (flight_of_course h a x)
left_here h a x = refl

-- A call lies nowhere where it has no place.
nowhere : (k : KeptState) (w : World) → Tells k w → (a : Machine) (x : Course) → not (is_placed w x.call) ≡ is_none (flight_of_course w.header a x).place
nowhere k w t a x = ap not (placed_is k w t x.call) ∙ place_known w.header x.call (is_placed_in w.header x.call) refl

-- What a torn write leaves.
pub torn_here : {commands : Header → List (Form Command)} → (k : KeptState) (w : World) → Tells k w → IsSane commands w → (m : ℕ) (a : Machine) → machine_at w m ≡ Some a
    → (c : ℕ) (x : Course) → flight_of a c ≡ Some x → is_write_course x ≡ true → not (is_placed w x.call) ≡ false → (n : ℕ) (bytes : List ℕ)
    → torn_bytes w x.call n bytes ≡ torn_in k (flight_of_course w.header a x) n bytes
torn_here k w t is m a at c x there writes placed n bytes = go x.call.op refl
  where
    whole : x.call.offset % sector_size w ≡ 0
    whole = ((is.sane (m - 1) a (machine_place w m a at)).calls x (flight_inside a c x there)).whole

    on : is_placed_in w.header x.call ≡ true
    on = sym (placed_is k w t x.call) ∙ not_false (is_placed w x.call) placed

    layout : w.layout ≡ layout_of w.header.geometry
    layout = t.layout ∙ ap (λ (h : Header). layout_of h.geometry) (sym t.header)

    no_more : (o s : ℕ) → o ≡ o + 0 * s
    no_more o s = omega arith

    stands : (r : Rec) → x.call.op ≡ WriteRecord r → content w x.call.path x.call.offset ≡ sector_of_call k.disks (place_in w.header x.call) 0
    stands r is_op =
        ap (content w x.call.path) (no_more x.call.offset (sector_size w))
        ∙ sector_there k w t is x.call 0 on whole (subst (λ op. 0 < sectors_of op) (sym is_op) (omega arith))

    left : Op → List ℕ
    left op =
        elim op [ ReadSectors j ↦ [] | WriteRecord r ↦ take n (sector_with w.layout r) ++ bytes ++ drop (n + length bytes) (content w x.call.path x.call.offset) ]

    kept : Op → List ℕ
    kept op =
        elim (write_in w.header op) [
          | None ↦ []
          | Some whole ↦ take n whole ++ bytes ++ drop (n + length bytes) (sector_of_call k.disks (place_in w.header x.call) 0)
        ]

    go : (op : Op) → x.call.op ≡ op → torn_bytes w x.call n bytes ≡ torn_in k (flight_of_course w.header a x) n bytes
    go (ReadSectors j) is_op = ap left is_op ∙ sym (ap kept is_op)
    go (WriteRecord r) is_op =
        ap left is_op
        ∙ ap₂ (λ g old. take n (sector_with g r) ++ bytes ++ drop (n + length bytes) old) layout (stands r is_op)
        ∙ sym (ap kept is_op)

spells_here : (k : KeptState) (w : World) → Tells k w → (xs ys : List ℕ) → xs ≡ ys → spells_something w xs ≡ spells_in k.header ys
spells_here k w t xs ys same = ap₂ (λ (g : Layout) bytes. is_ok (record_in g bytes)) t.layout same

-- ---- time

never_zero : (k : ℕ) → (1 + k == 0) ≡ false
never_zero k = grind (arith, nat_tests)

one_less : (k : ℕ) → 1 + k - 1 ≡ k
one_less k = omega arith

clock_at : (w : World) (d : ℕ) (gs : Option (List ℕ)) (k : ℕ) (a : Machine) → slice_get w.machines k ≡ Some a
    → nat_le moments (reading_of (clock_after w d gs (1 + k))) ≡ reads_past d gs (1 + k, shown w.header a)
unfolding shown
clock_at w d gs k a at =
    ap (λ (o : Option Machine). nat_le moments (reading_of (elim o as (λ x. ℕ) [ None ↦ 0 | Some b ↦ b.clock + growth_of d gs (1 + k) ])))
    (ap₂ (λ b n. if b then None else slice_get w.machines n) (never_zero k) (one_less k) ∙ at)

-- A write that may land is in flight.
closed : (w n i o : Bool) → (n && (o || (w && n && i))) ≡ false → (w && n && i) ≡ false
closed true false i o h = refl
closed false false i o h = refl
closed true true true true h = absurd (true_is_false h)
closed true true true false h = absurd (true_is_false h)
closed true true false o h = refl
closed false true i o h = refl

unanswered : (w n i : Bool) → n ≡ true → (w && n && i) ≡ (w && i)
unanswered true true i h = refl
unanswered false true i h = refl
unanswered w false i h = absurd (false_is_true h)

by_truth : (m l : Bool) → (elim m as (λ x. Bool) [ false ↦ false | true ↦ l ]) ≡ (m && l)
by_truth true l = refl
by_truth false l = refl

-- Whether a call could land too late, by its first reset.
late_course : (h : Header) (land moment : ℕ) (a : Machine) (x : Course) → is_open a x ≡ true → is_late_landing land moment a x ≡ is_overdue land moment (flight_of_course h a x)
late_course h land moment a x in_flight =
    by_truth (may_land x) (list_any (λ (r : Stamp). nat_lt (r.moment + land) moment) (resets_after a x.made.step))
    ∙ ap₂ (λ m l. m && l)
    (unanswered (is_write_course x) (is_none x.answered) (is_in_flight x.fate) (and_true (is_none x.answered) _ in_flight).0
    ∙ ap (λ z. z && is_in_flight x.fate) (writes_here h a x))
    (any_map (λ (r : Stamp). r.moment) (λ (r : Stamp). nat_lt (r.moment + land) moment) (λ z. nat_lt (z + land) moment) (resets_after a x.made.step) (λ r. refl)
    ∙ any_least land moment (map (λ (r : Stamp). r.moment) (resets_after a x.made.step)))

no_late_course : (land moment : ℕ) (a : Machine) (x : Course) → is_open a x ≡ false → is_late_landing land moment a x ≡ false
no_late_course land moment a x over =
    ap (λ m. elim m as (λ y. Bool) [ false ↦ false | true ↦ list_any (λ (r : Stamp). nat_lt (r.moment + land) moment) (resets_after a x.made.step) ])
    (closed (is_write_course x) (is_none x.answered) (is_in_flight x.fate) (is_of_running a x) over)

late_calls : (h : Header) (land moment : ℕ) (a : Machine) → list_any (is_late_landing land moment a) a.calls ≡ list_any (is_overdue land moment) (shown h a).flights
unfolding shown
late_calls h land moment a =
    any_kept (is_late_landing land moment a) (is_open a) (flight_of_course h a) (is_overdue land moment) a.calls (late_course h land moment a) (no_late_course land moment a)

starving : (h : Header) (fire moment : ℕ) (a : Machine) → (a.up && nat_lt (a.kept.moment + fire) moment) ≡ starves fire moment (shown h a)
unfolding shown
starving h fire moment a = refl

pass_refused : (k : KeptState) (w : World) → Tells k w → length w.machines ≡ w.header.machines → (d : ℕ) (gs : Option (List ℕ))
    → Agree (pass_tests w d gs) (pass_tests_in k d gs)
unfolding pass_tests pass_tests_in
pass_refused k w t count d gs =
    front_test _ _ LimitMoment _ _ (ap₂ (λ x y. x || y) (ap (λ z. nat_le moments (z + d)) t.moment) clocks) (λ below.
    front_test _ _ PremiseDrift _ _ drift (λ drifts. front_test _ _ PremiseWatchdog _ _ fire (λ kept. last_test _ _ PremiseLanding late)))
  where
    past : ℕ → Bool
    past m = nat_le moments (reading_of (clock_after w d gs m))

    off : ℕ → Bool
    off m = not (drifts w.header.timing.rho d (growth_of d gs m))

    clocks : list_any (λ m. nat_le moments (reading_of (clock_after w d gs m))) (range_with_len 1 w.header.machines) ≡ list_any (reads_past d gs) (enumerate_from 1 k.machines)
    clocks =
        ap (λ n. list_any past (range_with_len 1 n)) (sym count) ∙ any_numbered (shown w.header) past (reads_past d gs) 1 w.machines (clock_at w d gs)
        ∙ ap (λ ms. list_any (reads_past d gs) (enumerate_from 1 ms)) t.machines

    drift : list_any (λ m. not (drifts w.header.timing.rho d (growth_of d gs m))) (range_with_len 1 w.header.machines)
        ≡ list_any (drifts_off k.header.timing.rho d gs) (enumerate_from 1 k.machines)
    drift =
        ap (λ n. list_any off (range_with_len 1 n)) (sym count)
        ∙ any_numbered (shown w.header) off (drifts_off w.header.timing.rho d gs) 1 w.machines (λ j a at. refl)
        ∙ ap₂ (λ (h : Header) ms. list_any (drifts_off h.timing.rho d gs) (enumerate_from 1 ms)) t.header t.machines

    fire : list_any (λ (a : Machine). a.up && nat_lt (a.kept.moment + w.header.timing.fire) (w.moment + d)) w.machines
        ≡ list_any (starves k.header.timing.fire (k.moment + d)) k.machines
    fire =
        any_map (shown w.header) (λ (a : Machine). a.up && nat_lt (a.kept.moment + w.header.timing.fire) (w.moment + d)) (starves w.header.timing.fire (w.moment + d)) w.machines
        (starving w.header w.header.timing.fire (w.moment + d))
        ∙ ap₂ (λ (h : Header) z. list_any (starves h.timing.fire (z + d)) (map (shown w.header) w.machines)) t.header t.moment
        ∙ ap (list_any (starves k.header.timing.fire (k.moment + d))) t.machines

    late : list_any (λ (a : Machine). list_any (is_late_landing w.header.timing.land (w.moment + d) a) a.calls) w.machines
        ≡ list_any (λ (s : MachineState). list_any (is_overdue k.header.timing.land (k.moment + d)) s.flights) k.machines
    late =
        any_map (shown w.header) (λ (a : Machine). list_any (is_late_landing w.header.timing.land (w.moment + d) a) a.calls)
        (λ (s : MachineState). list_any (is_overdue w.header.timing.land (w.moment + d)) s.flights) w.machines (late_calls w.header w.header.timing.land (w.moment + d))
        ∙ ap₂ (λ (h : Header) z. list_any (λ (s : MachineState). list_any (is_overdue h.timing.land (z + d)) s.flights) (map (shown w.header) w.machines)) t.header t.moment
        ∙ ap (list_any (λ (s : MachineState). list_any (is_overdue k.header.timing.land (k.moment + d)) s.flights)) t.machines

-- ---- all events

shaped : (k : KeptState) (w : World) → Tells k w → (e : Event) → is_shaped w e ≡ is_shaped_in k.header e
shaped k w t (Pass d (Some gs)) = ap (λ (h : Header). length gs == h.machines) t.header
shaped k w t (Tear m c n bytes) = ap (λ (g : Layout). nat_le (n + length bytes) g.sector) t.layout
shaped k w t e = refl

tested : (commands : Header → List (Form Command)) (k : KeptState) (w : World) → Tells k w → IsSane commands w → (e : Event)
    → Agree (event_tests w e) (tests_in commands k e)
unfolding event_tests tests_in shown
tested commands k w t is (Pass d gs) = pass_refused k w t is.counted d gs
tested commands k w t is (WakeUp m) = same_machine k w t m _ _ (λ a at. last_test _ _ MissingDaemon (runs_here w.header a))
tested commands k w t is (GiveCommand m text) =
    same_machine k w t m _ _ (λ a at. front_test _ _ MissingDaemon _ _ (runs_here w.header a) (λ runs.
    last_test _ _ MissingLvm (ap (λ z. z || is_some a.locks.due) (for_locks commands w is m a at text runs ∙ ap (λ h. text_for_locks commands h text) t.header))))
tested commands k w t is (GiveLvm m line) =
    same_machine k w t m _ _ (λ a at. front_test _ _ MissingDaemon _ _ (runs_here w.header a) (λ runs. same_tests))
tested commands k w t is (GiveAsk m) =
    same_machine k w t m _ _ (λ a at. front_test _ _ MissingDaemon _ _ (runs_here w.header a) (λ runs. same_tests))
tested commands k w t is (Sample m c n) =
    same_machine k w t m _ _ (λ a at. front_test _ _ MissingDaemon _ _ (runs_here w.header a) (λ runs.
    same_flight w.header a c is_read_course
    (λ f. (not (is_placed w f.call), MissingPlace) ∷ (nat_lt (sectors_left f) n, MissingSample) ∷ []) reads_in
    (λ f. (is_none f.place, MissingPlace) ∷ (nat_lt (left_in f) n, MissingSample) ∷ []) (λ x there. reads_here w.header a x) (λ x there reads.
    front_test _ _ MissingPlace _ _ (nowhere k w t a x) (λ placed. same_tests))))
tested commands k w t is (Land m c) =
    same_machine k w t m _ _ (λ a at. same_flight w.header a c is_write_course
    (λ f. (not (is_placed w f.call), MissingPlace) ∷ (not (is_in_flight f.fate), MissingFlight) ∷ []) writes_in
    (λ f. (is_none f.place, MissingPlace) ∷ (not f.flying, MissingFlight) ∷ []) (λ x there. writes_here w.header a x) (λ x there writes.
    front_test _ _ MissingPlace _ _ (nowhere k w t a x) (λ placed. same_tests)))
tested commands k w t is (Tear m c n bytes) =
    same_machine k w t m _ _ (λ a at. same_flight w.header a c is_write_course
    (λ f. (not (is_placed w f.call), MissingPlace) ∷ (not (is_in_flight f.fate), MissingFlight) ∷ (spells_something w (torn_bytes w f.call n bytes), PremiseTorn) ∷ []) writes_in
    (λ f. (is_none f.place, MissingPlace) ∷ (not f.flying, MissingFlight) ∷ (spells_in k.header (torn_in k f n bytes), PremiseTorn) ∷ []) (λ x there. writes_here w.header a x) (λ x there writes.
    front_test _ _ MissingPlace _ _ (nowhere k w t a x) (λ placed.
    front_test _ _ MissingFlight _ _ refl (λ flying.
    last_test _ _ PremiseTorn (spells_here k w t _ _ (torn_here k w t is m a at c x there writes placed n bytes))))))
tested commands k w t is (AnswerCall m c ok) =
    same_machine k w t m _ _ (λ a at. front_test _ _ MissingDaemon _ _ (runs_here w.header a) (λ runs.
    same_flight w.header a c (is_of_running a)
    (λ f. (ok && is_read_course f && nat_lt 0 (sectors_left f), MissingSample) ∷ (ok && is_write_course f && not (is_landed f.fate), MissingLanding) ∷ []) (λ f. f.own)
    (λ f. (ok && reads_in f && nat_lt 0 (left_in f), MissingSample) ∷ (ok && writes_in f && not f.landed, MissingLanding) ∷ []) (λ x there. refl) (λ x there own.
    front_test _ _ MissingSample _ _ (ap (λ z. ok && z && nat_lt 0 (sectors_left x)) (reads_here w.header a x)) (λ sampled.
    last_test _ _ MissingLanding (ap (λ z. ok && z && not (is_landed x.fate)) (writes_here w.header a x))))))
tested commands k w t is (Do m c) =
    same_machine k w t m _ _ (λ a at. front_test _ _ MissingDaemon _ _ (runs_here w.header a) (λ runs.
    same_flight w.header a c (is_of_running a)
    (λ f. (not (is_placed w f.call), MissingPlace) ∷ (is_torn_fate f.fate, MissingLanding) ∷ []) (λ f. f.own)
    (λ f. (is_none f.place, MissingPlace) ∷ (f.torn, MissingLanding) ∷ []) (λ x there. refl) (λ x there own. front_test _ _ MissingPlace _ _ (nowhere k w t a x) (λ placed. same_tests))))
tested commands k w t is (DropWrite m c) =
    same_machine k w t m _ _ (λ a at. same_flight w.header a c is_write_course
    (λ f. (is_of_running a f || not (is_in_flight f.fate), MissingFlight) ∷ []) writes_in
    (λ f. (f.own || not f.flying, MissingFlight) ∷ []) (λ x there. writes_here w.header a x) (λ x there writes. same_tests))
tested commands k w t is (Test m) = same_machine k w t m _ _ (λ a at. same_tests)
tested commands k w t is (ExitOf m p) = same_machine k w t m _ _ (λ a at. same_tests)
tested commands k w t is (SpawnedOf m p ok) =
    same_machine k w t m _ _ (λ a at. front_test _ _ MissingDaemon _ _ (runs_here w.header a) (λ runs.
    last_test _ _ MissingSpawn (ap not (starts_here commands w is m a at p runs))))
tested commands k w t is (StartDaemon m name) =
    same_machine k w t m _ _ (λ a at. front_test _ _ MissingUp _ _ refl (λ up. front_test _ _ MissingReset _ _ refl (λ used. last_test _ _ PremiseName (t.names name))))
tested commands k w t is (Crash m) = same_machine k w t m _ _ (λ a at. last_test _ _ MissingDaemon (runs_here w.header a))
tested commands k w t is (Reset m) = same_machine k w t m _ _ (λ a at. same_tests)
tested commands k w t is (Restart m) = same_machine k w t m _ _ (λ a at. same_tests)

pub refusals_are_kept : RefusalsAreKept
refusals_are_kept commands k w t is e = (front_test _ _ Syntax _ _ (ap not (shaped k w t e)) (λ fits. tested commands k w t is e)).same
