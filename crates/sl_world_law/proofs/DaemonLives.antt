-- A daemon begins or ends, a machine goes down.
use Rattle.sl_world_state.specs.Changes.{crashed_machine, cut_flight, disowned, first_cut, first_kept, named_in, reset_machine, started_machine}
use Rattle.sl_world_state.specs.KeptWorld.{FlightState, KeptState, MachineState, change_machine_in}
use Rattle.sl_world_state.specs.Refusals.{lands}
use Rattle.sl_world_state.specs.SaneWorlds.{IsSane, IsSaneMachine}
use Rattle.sl_world_state.specs.ShownWorlds.{Tells, cut_of, flight_of_course, shown, write_in}
use Rattle.sl_world_law.proofs.AllowedEvents.{allowed, machine_found, open_test}
use Rattle.sl_world_law.proofs.MachineChanges.{names_on, tells_change, tells_set}
use Rattle.sl_world_law.proofs.ShownCalls.{dropped_first, kept_first, not_own, shows, shows_by}
use Rattle.sl_world_law.proofs.Lookups.{machine_place, machine_shown}
use Rattle.sl_world_law.proofs.TestLists.{Tests}
use Rattle.sl_world_law.specs.Changes.{LivesAreKept}
use Rattle.sl_words.proofs.Lists.{contains_first, contains_more, in_map, kept_inside}
use Rattle.sl_run.specs.EventChanges.{after_crash, after_reset, after_start, first_change}
use Rattle.sl_run.specs.Refusals.{event_tests, may_happen}
use Rattle.sl_run.specs.Locks.{fresh_locks}
use Rattle.sl_run.specs.Worlds.{Course, Daemon, Machine, Stamp, World, change_machine, daemons_on, is_in_flight, is_of_running, is_open, is_write_course, may_land, names_of, new_daemon, next_numbers, resets_after, setting_of, stamp_now}
use Rattle.sl_run.specs.declared.event.Event.TheVariants.{StartDaemon}
use Rattle.sl_run.specs.declared.event.Refusal.TheVariants.{MissingReset, MissingUp, PremiseName}
use Rattle.sl_run.specs.declared.header.Header.{Header}
use Rattle.sl_text.specs.Forms.{Form}
use Rattle.sl_trace.specs.Traces.{is_write}
use Rattle.sl_trace.specs.declared.command.Command.{Command}
use Rattle.sl_trace.specs.declared.effects.Op.TheVariants.{ReadSectors, WriteRecord}
use Rattle.sl_trace.specs.declared.effects.Op.{Op}
use Rattle.sl_words.proofs.CaseLaws.{false_is_true, true_is_false}
use Rattle.sl_words.proofs.WordLaws.{and_true}
use Rattle.sl_words.specs.Words.{least, some_is}
use Rattle.std.proofs.Common.{ap, ap₂, arith, refl, subst, sym, ◌∙◌}
use Rattle.std.proofs.lemmas.Bool.Decides.{nat_tests}
use Rattle.std.specs.List.{list_any}
use Rattle.std.specs.Prelude.{Bool, Contains, List, None, Option, Some, bytes_eq, cond, false, filter, is_none, is_some, length, map, min, nat_lt, not, option_map, slice_set, true, [], ℕ, ◌&&◌, ◌+◌, ◌-◌, ◌<◌, ◌==◌, ◌∷◌, ◌≡◌, ◌≤◌, ◌||◌}

-- ---- the writes that are left

three_true : (w n i : Bool) → (w && n && i) ≡ true → (n ≡ true) × ((w && i) ≡ true)
three_true true true true h = (refl, refl)
three_true true true false h = absurd (false_is_true h)
three_true true false i h = absurd (false_is_true h)
three_true false n i h = absurd (false_is_true h)

two_false : (w n i : Bool) → (w && n && i) ≡ false → n ≡ true → (w && i) ≡ false
two_false true true i h t = h
two_false true false i h t = absurd (true_is_false (sym t))
two_false false n i h t = refl

or_true : (b : Bool) → (b || true) ≡ true
or_true true = refl
or_true false = refl

and_none : (b : Bool) → (b && false) ≡ false
and_none true = refl
and_none false = refl

is_written : (h : Header) (op : Op) → is_some (write_in h op) ≡ is_write op
is_written h (ReadSectors n) = refl
is_written h (WriteRecord r) = refl

lands_is : (h : Header) (a : Machine) (c : Course) → lands (flight_of_course h a c) ≡ (is_write_course c && is_in_flight c.fate)
lands_is h a c = ap (λ b. b && is_in_flight c.fate) (is_written h c.call.op)

-- A write that may still land is in flight, whoever runs.
open_then : (a : Machine) (c : Course) → may_land c ≡ true → is_open a c ≡ true
open_then a c m =
    ap₂ (λ n l. n && (is_of_running a c || l)) (three_true (is_write_course c) (is_none c.answered) (is_in_flight c.fate) m).0 m ∙ or_true (is_of_running a c)

-- Where nothing runs, nothing else is.
closed_then : (b : Machine) (c : Course) → b.daemon ≡ None → may_land c ≡ false → is_open b c ≡ false
closed_then b c none m =
    ap₂ (λ (o : Option Daemon) l. is_none c.answered && (some_is (λ (d : Daemon). d.number == c.daemon) o || l)) none m ∙ and_none (is_none c.answered)

-- Of what was in flight the writes are left, each as `leave` says.
left_one : (h : Header) (a b : Machine) (leave : FlightState → FlightState) (c : Course) (cs : List Course) (m o : Bool) → b.daemon ≡ None → may_land c ≡ m → is_open a c ≡ o
    → (may_land c ≡ true → flight_of_course h b c ≡ leave (flight_of_course h a c)) → shows h b cs ≡ map leave (filter lands (shows h a cs))
    → shows h b (c ∷ cs) ≡ map leave (filter lands (shows h a (c ∷ cs)))
left_one h a b leave c cs true o none m_is o_is same rest =
    let n = three_true (is_write_course c) (is_none c.answered) (is_in_flight c.fate) m_is in
    kept_first (flight_of_course h b) (is_open b) c cs (open_then b c m_is) ∙ ap₂ (λ x ys. x ∷ ys) (same m_is) rest
    ∙ sym (kept_first leave lands (flight_of_course h a c) (shows h a cs) (lands_is h a c ∙ n.1))
    ∙ sym (ap (λ ys. map leave (filter lands ys)) (kept_first (flight_of_course h a) (is_open a) c cs (open_then a c m_is)))
left_one h a b leave c cs false true none m_is o_is same rest =
    dropped_first (flight_of_course h b) (is_open b) c cs (closed_then b c none m_is) ∙ rest
    ∙ sym (dropped_first leave lands (flight_of_course h a c) (shows h a cs)
    (lands_is h a c ∙ two_false (is_write_course c) (is_none c.answered) (is_in_flight c.fate) m_is (and_true (is_none c.answered) _ o_is).0))
    ∙ sym (ap (λ ys. map leave (filter lands ys)) (kept_first (flight_of_course h a) (is_open a) c cs o_is))
left_one h a b leave c cs false false none m_is o_is same rest =
    dropped_first (flight_of_course h b) (is_open b) c cs (closed_then b c none m_is) ∙ rest
    ∙ sym (ap (λ ys. map leave (filter lands ys)) (dropped_first (flight_of_course h a) (is_open a) c cs o_is))

left : (h : Header) (a b : Machine) (leave : FlightState → FlightState) (cs : List Course) → b.daemon ≡ None
    → ((c : Course) → Contains cs c → may_land c ≡ true → flight_of_course h b c ≡ leave (flight_of_course h a c)) → shows h b cs ≡ map leave (filter lands (shows h a cs))
left h a b leave [] none same = refl
left h a b leave (c ∷ cs) none same =
    left_one h a b leave c cs (may_land c) (is_open a c) none refl refl (same c (contains_first c cs)) (left h a b leave cs none (λ x there. same x (contains_more c cs x there)))

-- ---- a daemon ends

crashed_shows : (h : Header) (a : Machine) → shown h (after_crash a) ≡ crashed_machine (shown h a)
unfolding shown
crashed_shows h a = ap (λ fs. record (crashed_machine (shown h a)) { flights = fs }) (left h a (after_crash a) disowned a.calls refl (λ c there m. refl))

-- ---- a machine goes down

abbrev Below : ℕ → Option ℕ → Type 0
Below m None = Unit {0}
Below m (Some y) = y ≤ m

below_min : (m x : ℕ) (o : Option ℕ) → x ≤ m → Below m (elim o as (λ z. Option ℕ) [ None ↦ Some x | Some y ↦ Some (min x y) ])
below_min m x None le = le
below_min m x (Some y) le = omega (arith, le)

all_below : (m : ℕ) (xs : List ℕ) → ((x : ℕ) → Contains xs x → x ≤ m) → Below m (least xs)
all_below m [] below = tt
all_below m (x ∷ xs) below = below_min m x (least xs) (below x (contains_first x xs))

newest_cut : (m : ℕ) (o : Option ℕ) → Below m o → (elim o as (λ z. Option ℕ) [ None ↦ Some m | Some y ↦ Some (min m y) ]) ≡ first_cut m o
newest_cut m None b = refl
newest_cut m (Some y) b = ap Some (min_is m y b)
  where
    min_is : (m y : ℕ) → y ≤ m → min m y ≡ y
    min_is m y le = omega (arith, le)

-- With one more reset, the newest, the first one is as before.
cut_then : (w : World) (a : Machine) (c : Course) → IsSaneMachine w a → c.made.step < w.step → cut_of (after_reset w a) c ≡ first_cut w.moment (cut_of a c)
cut_then w a c is before =
    ap (λ b. least (map (λ (r : Stamp). r.moment) (cond b (stamp_now w a ∷ resets_after a c.made.step) (resets_after a c.made.step)))) newer
    ∙ newest_cut w.moment (cut_of a c) (all_below w.moment (map (λ (r : Stamp). r.moment) (resets_after a c.made.step)) older)
  where
    newer : nat_lt c.made.step w.step ≡ true
    newer = grind (arith, nat_tests, before)

    older : (x : ℕ) → Contains (map (λ (r : Stamp). r.moment) (resets_after a c.made.step)) x → x ≤ w.moment
    older x there =
        let r = in_map (λ (r : Stamp). r.moment) (resets_after a c.made.step) x there in
        subst (λ z. z ≤ w.moment) r.2 ((is.resets r.0 (kept_inside (λ (r : Stamp). nat_lt c.made.step r.step) a.resets r.0 r.1).0).1)

reset_shows : (w : World) (moment : ℕ) (a : Machine) → IsSaneMachine w a → w.moment ≡ moment → (h : Header) → w.header ≡ h → shown w.header (after_reset w a) ≡ reset_machine h moment (shown w.header a)
unfolding shown
reset_shows w moment a is now h same =
    ap (λ fs. record (reset_machine w.header w.moment (shown w.header a)) { flights = fs })
    (left w.header a (after_reset w a) (cut_flight w.moment) a.calls refl
    (λ c there m. ap (λ z. record (flight_of_course w.header a c) { own = false; cut = z }) (cut_then w a c is (is.made c there))))
    ∙ ap₂ (λ g z. reset_machine g z (shown w.header a)) same now

-- ---- a daemon begins

plus_none : (n : ℕ) → n + 0 ≡ n
plus_none n = omega arith

-- None ran.
pub none_ran : (w : World) (a : Machine) → IsSaneMachine w a → a.used ≡ false → a.daemon ≡ None
none_ran w a is unused = go a.daemon refl
  where
    go : (o : Option Daemon) → a.daemon ≡ o → a.daemon ≡ None
    go None at = at
    go (Some d) at = absurd (true_is_false (sym (is.used d at) ∙ unused))

started_shows : (w : World) (m : ℕ) (name : List ℕ) (a : Machine) → IsSaneMachine w a → a.daemon ≡ None
    → shown w.header (after_start w m name a) ≡ started_machine w.header (shown w.header a)
unfolding shown
started_shows w m name a is none = λ j.
    record {
      up = a.up;
      used = true;
      runs = true;
      clock = a.clock;
      kept = a.kept.moment;
      connections = a.connections;
      next = record { call = plus_none (next_numbers a).call j; job = plus_none (next_numbers a).job j };
      starting = [];
      flights = flights_are j;
      held = a.holdings;
      lingering = a.lingering;
      locks = fresh_locks w.header;
    }
  where
    new : Daemon
    new = new_daemon (length (daemons_on a)) (setting_of w.program w.layout w.header m name (next_numbers a) []) (stamp_now w a)

    other : (c : Course) → Contains a.calls c → (length (daemons_on a) == c.daemon) ≡ false
    other c there = let older = is.daemons c there in grind (arith, nat_tests, older)

    flights_are : shows_by w.header a.resets (Some new) a.calls ≡ shows w.header a a.calls
    flights_are = not_own w.header a.resets new a.calls other ∙ sym (ap (λ o. shows_by w.header a.resets o a.calls) none)

or_first : (b x : Bool) → (b || x) ≡ ((b || false) || x)
or_first true x = refl
or_first false x = refl

started_names : (w : World) (m : ℕ) (text : List ℕ) (a : Machine) → a.daemon ≡ None → (name : List ℕ)
    → list_any (bytes_eq name) (names_on (after_start w m text a)) ≡ (list_any (bytes_eq name) (text ∷ []) || list_any (bytes_eq name) (names_on a))
started_names w m text a none name =
    or_first (bytes_eq name text) (list_any (bytes_eq name) (map (λ (d : Daemon). d.setting.name) a.ended))
    ∙ sym (ap (λ (o : Option Daemon). (bytes_eq name text || false)
    || list_any (bytes_eq name) (map (λ (d : Daemon). d.setting.name) (elim o as (λ x. List Daemon) [ None ↦ a.ended | Some d ↦ d ∷ a.ended ]))) none)

starts : (commands : Header → List (Form Command)) (k : KeptState) (w : World) → Tells k w → IsSane commands w → (m : ℕ) (name : List ℕ)
    → may_happen w (StartDaemon m name) ≡ true → Tells (named_in name (change_machine_in m (started_machine k.header) k)) (change_machine m (after_start w m name) w)
unfolding event_tests
starts commands k w t is m name may =
    let f = machine_found w m (λ a. (not a.up, MissingUp) ∷ (a.used, MissingReset) ∷ (list_any (bytes_eq name) (names_of w), PremiseName) ∷ []) (allowed w (StartDaemon m name) may) in
    let a : Machine = f.0 in
    let names : Tests = (list_any (bytes_eq name) (names_of w), PremiseName) ∷ [] in
    let place = machine_place w m a f.1 in
    let none = none_ran w a (is.sane (m - 1) a place) (open_test a.used MissingReset names (open_test (not a.up) MissingUp ((a.used, MissingReset) ∷ names) f.2).1).0 in
    let shows_it : shown w.header (after_start w m name a) ≡ started_machine k.header (shown w.header a) =
    started_shows w m name a (is.sane (m - 1) a place) none ∙ ap (λ h. started_machine h (shown w.header a)) t.header in
    subst (λ v. Tells v (change_machine m (after_start w m name) w))
    (sym (ap (λ (o : Option MachineState). named_in name (elim o as (λ x. KeptState) [
      | None ↦ k
      | Some s ↦ record k { machines = slice_set k.machines (m - 1) (started_machine k.header s) }
    ])) (machine_shown k w t m ∙ ap (option_map (shown w.header)) f.1)))
    (subst (λ v. Tells (named_in name (record k { machines = slice_set k.machines (m - 1) (started_machine k.header (shown w.header a)) })) v)
    (sym (ap (λ (o : Option Machine). elim o as (λ x. World) [
      | None ↦ w
      | Some b ↦ record w { machines = slice_set w.machines (m - 1) (after_start w m name b) }
    ]) f.1))
    (tells_set k w t (m - 1) a (after_start w m name a) (started_machine k.header (shown w.header a)) (name ∷ []) place shows_it (started_names w m name a none)))

pub lives_are_kept : LivesAreKept
unfolding first_kept first_change
lives_are_kept =
    record {
      starts = starts;
      crashes = λ k w t m. tells_change k w t m after_crash crashed_machine (λ a at. crashed_shows w.header a) (λ a name at. refl);
      resets = λ commands k w t is m. tells_change k w t m (after_reset w) (reset_machine k.header k.moment)
          (λ a at. reset_shows w k.moment a (is.sane (m - 1) a (machine_place w m a at)) t.moment k.header t.header) (λ a name at. refl);
    }
