-- A machine's calls of a daemon are those of its trace, in the same order.
use Rattle.sl_area.specs.AreaSizes.{layout_with}
use Rattle.sl_run_law.proofs.Course.AnsweredCalls.{AllAwait, Awaits, awaits, only_flight}
use Rattle.sl_run_law.proofs.Course.CountedDaemons.{IsCountedOn, counted_after, daemon_number_is, daemons_numbered}
use Rattle.sl_run_law.proofs.Course.Daemons.{all_ended, daemons_are, entry_of, every_each, every_has, first_daemons, step_ended, turned_daemons}
use Rattle.sl_run_law.proofs.Course.CallsAreDistinct.{entered, each_distinct, made_calls, running_has, step_calls}
use Rattle.sl_run_law.proofs.Course.MachinesKeep.{Goes_on, machines_keep}
use Rattle.sl_run_law.proofs.Course.MatchedCall.{IsEntered, answered_course, changed_course, later_course, made_course}
use Rattle.sl_run_law.proofs.Course.PairwiseLists.{every_filtered, filter_changed, filter_drops, filter_has, filter_none, pairs_change, pairs_first, pairs_hold, pairs_length}
use Rattle.sl_run_law.proofs.Course.DaemonRuns.{daemon_stays, runs_before}
use Rattle.sl_run_law.proofs.Course.EntriesAreStamped.{entries_are_stamped}
use Rattle.sl_run_law.proofs.Course.MachineTurns.{Alone, Began, Called, Came_up, Clocked, Crashed, Elsewhere, IsQuiet, KeepsAsking, Stays, Stepped, Tested, Took, Turned, Went_down, own_quiet}
use Rattle.sl_run_law.specs.Course.Mirrors.{AreNumbered}
use Rattle.sl_run_law.specs.Course.CourseLaws.{CoursesAreCalls}
use Rattle.sl_run_law.specs.Course.CallStamps.{IsCourseOf, IsStampOf, IsStamped, Pairwise}
use Rattle.sl_words.proofs.Numbers.{less_is_other}
use Rattle.sl_run.specs.EventChanges.{after_step, close_answered, daemon_number, first_change, new_course, next_step, with_entry}
use Rattle.sl_run.specs.Runs.{Happening}
use Rattle.sl_run.specs.Safety.{world_at}
use Rattle.sl_run.specs.Worlds.{Course, Daemon, Machine, Program, Stamp, World, daemons_on, flight_of, machine_at, machine_of_header, new_daemon, next_numbers, setting_of, stamp_now}
use Rattle.sl_run.specs.declared.event.Event.{Event}
use Rattle.sl_run.specs.declared.header.Header.{Header}
use Rattle.sl_run_law.proofs.AnswersStay.{flight_waits}
use Rattle.sl_run_law.proofs.CourseLists.{changed_if}
use Rattle.sl_run_law.proofs.FatesStay.{every_map}
use Rattle.sl_run_law.proofs.CoursesGoOn.{told}
use Rattle.sl_run_law.specs.DaemonsGoOn.{IsSettled}
use Rattle.sl_run_law.specs.FatesStay.{AreDistinct, Every}
use Rattle.sl_trace.specs.Traces.{Submitted, answered_in, is_ok_answer, mark, new_call, submitted}
use Rattle.sl_trace.specs.declared.effects.Call.{Call}
use Rattle.sl_trace.specs.declared.effects.Effects.{Effects}
use Rattle.sl_trace.specs.declared.effects.Entry.{Entry}
use Rattle.sl_trace.specs.declared.input.Input.TheVariants.{Answer as Told, Exit, Line, Number, Spawned, Wake}
use Rattle.sl_trace.specs.declared.input.Input.{Input}
use Rattle.std.proofs.Common.{ap, arith, refl, subst, sym, tests, ◌∙◌}
use Rattle.std.proofs.lemmas.Bool.{eq-eqb}
use Rattle.std.proofs.lemmas.Bool.Decides.{Decides-eqb}
use Rattle.std.specs.Prelude.{Bool, List, None, Some, false, filter, fold, length, map, suc, true, [], ℕ, ◌<◌, ◌==◌, ◌∷◌, ◌≡◌}

-- Whether a course is of the daemon with this number.
abbrev of_daemon : ℕ → Course → Bool
of_daemon k c = c.daemon == k

-- These courses are the daemon's calls, those that are its.
abbrev CallsOf : List Course → Daemon → Type 0
CallsOf cs d = Pairwise (IsCourseOf d) (filter (of_daemon d.number) cs) (submitted d.trace)

-- What is kept.
abbrev IsMatched : Machine → Type 0
IsMatched a = Every (CallsOf a.calls) (daemons_on a)

-- ---- a call in flight changes

same_daemon_if : (t : Bool) (f : Course → Course) (c : Course) (k : ℕ) → (f c).daemon ≡ c.daemon → of_daemon k (changed_if t f c) ≡ of_daemon k c
same_daemon_if true f c k h = ap (λ n. n == k) h
same_daemon_if false f c k h = refl

-- The daemon's calls where some are changed.
changed_pairs : (d e : Daemon) (n : ℕ) (f : Course → Course) (cs : List Course) (ms : List Submitted) (Q : Course → Type 0) → ((c : Course) → (f c).daemon ≡ c.daemon)
    → ((c : Course) (m : Submitted) → Q c × (of_daemon d.number c ≡ true) → IsCourseOf d c m → IsCourseOf e (changed_if (c.call.number == n) f c) m) → Every Q cs
    → Pairwise (IsCourseOf d) (filter (of_daemon d.number) cs) ms
    → Pairwise (IsCourseOf e) (filter (of_daemon d.number) (map (λ c. changed_if (c.call.number == n) f c) cs)) ms
changed_pairs d e n f cs ms Q same each h k =
    let g : Course → Course = λ c. changed_if (c.call.number == n) f c in
    subst (λ xs. Pairwise (IsCourseOf e) xs ms) (sym (filter_changed (of_daemon d.number) g cs (λ c. same_daemon_if (c.call.number == n) f c d.number (same c))))
    (pairs_first (IsCourseOf d) (IsCourseOf e) (λ c. Q c × (of_daemon d.number c ≡ true)) g (filter (of_daemon d.number) cs) ms each
    (every_filtered Q (of_daemon d.number) cs h) k)

called_matched : (a : Machine) (n : ℕ) (f : Course → Course) (g : Course) → flight_of a n ≡ Some g → KeepsAsking f → AreDistinct a.calls → (d : Daemon) → CallsOf a.calls d
    → CallsOf (map (λ c. changed_if (c.call.number == n) f c) a.calls) d
called_matched a n f g flight keeps distinct d h =
    let Q : Course → Type 0 = λ c. (c.call.number == n) ≡ true → c.answered ≡ None in
    changed_pairs d d n f a.calls (submitted d.trace) Q keeps.daemon (λ c m q k. changed_course d f keeps c m (c.call.number == n) q.0 k)
    (every_map (λ x. (x.call.number == n) ≡ true → x ≡ g) Q a.calls (λ x same t. ap (λ (y : Course). y.answered) (same t) ∙ (flight_waits a n g flight).1)
    (only_flight a n g flight distinct)) h

-- ---- a daemon begins

none_yet : (cs : List Course) (d : Daemon) → d.trace ≡ [] → Every (λ c. c.daemon < d.number) cs → CallsOf cs d
none_yet cs d none h =
    subst (λ es. Pairwise (IsCourseOf d) (filter (of_daemon d.number) cs) (submitted es)) (sym none)
    (subst (λ xs. Pairwise (IsCourseOf d) xs []) (sym (filter_none (of_daemon d.number) cs
    (every_map (λ c. c.daemon < d.number) (λ c. of_daemon d.number c ≡ false) cs (λ c. less_is_other c.daemon d.number) h))) tt)

turned_matched : (w : World) (e : Event) (m : ℕ) (a b : Machine) → IsSettled a → IsCountedOn a → AreDistinct a.calls → Turned w e m a b → IsMatched a → IsMatched b
turned_matched w e m a b s counted distinct (Stays is) h = subst IsMatched (sym is) h
turned_matched w e m a b s counted distinct (Clocked n is) h = subst IsMatched (sym is) h
turned_matched w e m a b s counted distinct (Called n f g flight keeps is) h =
    let cs : List Course = map (λ c. changed_if (c.call.number == n) f c) a.calls in
    subst IsMatched (sym is) (every_each (CallsOf a.calls) (CallsOf cs) (daemons_on a) (called_matched a n f g flight keeps distinct) h)
turned_matched w e m a b s counted distinct (Tested t is) h = subst IsMatched (sym is) h
turned_matched w e m a b s counted distinct (Crashed event is) h = subst IsMatched (sym is) h
turned_matched w e m a b s counted distinct (Went_down event up is) h = subst IsMatched (sym is) h
turned_matched w e m a b s counted distinct (Came_up event down is) h = subst IsMatched (sym is) h
turned_matched w e m a b s counted distinct (Began name event up used fresh is) h =
    let d : Daemon = new_daemon (length (daemons_on a)) (setting_of w.program w.layout w.header m name (next_numbers a) []) (stamp_now w a) in
    subst IsMatched (sym is) (none_yet a.calls d refl counted.daemons, subst (Every (CallsOf a.calls)) (sym (all_ended a (s.unused used))) h)

-- ---- a step

-- The daemons before the running one.
pub all_less : (ds : List Daemon) → AreNumbered ds → Every (λ d. d.number < length ds) ds
all_less [] h = tt
all_less (d ∷ ds) h =
    let same : d.number ≡ length ds = h.0 in
    let less : d.number < length (d ∷ ds) = omega (arith, same) in
    (less, every_each (λ e. e.number < length ds) (λ e. e.number < length (d ∷ ds)) ds (λ e k. one_less e.number (length ds) k) (all_less ds h.1)) where
      one_less : (x n : ℕ) → x < n → x < suc n
      one_less x n h = omega (arith, h)

-- New calls of a daemon are none of another's.
made_drop : (k n : ℕ) (now : Stamp) (cs : List Course) (calls : List Call) → (k == n) ≡ false
    → filter (of_daemon n) (made_calls now k cs calls) ≡ filter (of_daemon n) cs
made_drop k n now cs [] other = refl
made_drop k n now cs (c ∷ calls) other =
    made_drop k n now (new_course now k c ∷ cs) calls other ∙ filter_drops (of_daemon n) (new_course now k c) cs other

-- An answer to the running daemon is none to another.
closed_other : (d e : Daemon) (now : Stamp) (i : Input) (b : Machine) → (d.number ≡ e.number → ⊥) → AllAwait d i b.calls → CallsOf b.calls e
    → CallsOf (close_answered now i b).calls e
closed_other d e now (Told n answer) b other h k =
    let Q : Course → Type 0 = λ c. (c.call.number == n) ≡ true → Awaits d answer c in
    changed_pairs e e n (told now (is_ok_answer answer)) b.calls (submitted e.trace) Q (λ c. refl)
    (λ c m q r. untouched c m (c.call.number == n) (λ t. other (sym (q.0 t).daemon ∙ (Decides-eqb c.daemon e.number).0 q.1)) r) h k where
      untouched : (c : Course) (m : Submitted) (t : Bool) → (t ≡ true → ⊥) → IsCourseOf e c m → IsCourseOf e (changed_if t (told now (is_ok_answer answer)) c) m
      untouched c m true no_one r = absurd (no_one refl)
      untouched c m false no_one r = r
closed_other d e now (Line text) b other h k = k
closed_other d e now (Number text) b other h k = k
closed_other d e now (Exit p) b other h k = k
closed_other d e now (Spawned p ok) b other h k = k
closed_other d e now Wake b other h k = k

other_number : (x y : ℕ) → x < y → (y == x) ≡ false
other_number x y h = grind (arith, tests)

pub apart : (x y : ℕ) → x < y → y ≡ x → ⊥
apart x y h same = absurd (omega (arith, h, same))

-- The calls of a daemon that has ended.
ended_matched : (now : Stamp) (i : Input) (fx : Effects) (b : Machine) (d e : Daemon) → AllAwait d i b.calls → e.number < d.number → CallsOf b.calls e
    → CallsOf (made_calls now d.number (close_answered now i b).calls fx.calls) e
ended_matched now i fx b d e h less k =
    subst (λ xs. Pairwise (IsCourseOf e) xs (submitted e.trace))
    (sym (made_drop d.number e.number now (close_answered now i b).calls fx.calls (other_number e.number d.number less)))
    (closed_other d e now i b (apart e.number d.number less) h k)

-- The calls of the running daemon, those that the entry answers.
closed_own : (d : Daemon) (x : Entry) (now : Stamp) (i : Input) (b : Machine) → IsEntered d x now → AllAwait d i b.calls → CallsOf b.calls d
    → Pairwise (IsCourseOf (with_entry x now d)) (filter (of_daemon d.number) (close_answered now i b).calls) (mark d.trace x i (submitted d.trace))
closed_own d x now (Told n answer) b is h k =
    let Q : Course → Type 0 = λ c. (c.call.number == n) ≡ true → Awaits d answer c in
    let g : Course → Course = λ c. changed_if (c.call.number == n) (told now (is_ok_answer answer)) c in
    let ms : List Submitted = map (answered_in d.trace x n answer) (submitted d.trace) in
    subst (λ xs. Pairwise (IsCourseOf (with_entry x now d)) xs ms)
    (sym (filter_changed (of_daemon d.number) g b.calls (λ c. same_daemon_if (c.call.number == n) (told now (is_ok_answer answer)) c d.number refl)))
    (pairs_change (IsCourseOf d) (IsCourseOf (with_entry x now d)) (λ c. Q c × (of_daemon d.number c ≡ true)) g (answered_in d.trace x n answer)
    (filter (of_daemon d.number) b.calls) (submitted d.trace) (λ c m q r. answered_course d x now n answer c m is q.0 r)
    (every_filtered Q (of_daemon d.number) b.calls h) k)
closed_own d x now (Line text) b is h k =
    pairs_hold (IsCourseOf d) (IsCourseOf (with_entry x now d)) (filter (of_daemon d.number) b.calls) (submitted d.trace) (later_course d x now) k
closed_own d x now (Number text) b is h k =
    pairs_hold (IsCourseOf d) (IsCourseOf (with_entry x now d)) (filter (of_daemon d.number) b.calls) (submitted d.trace) (later_course d x now) k
closed_own d x now (Exit p) b is h k =
    pairs_hold (IsCourseOf d) (IsCourseOf (with_entry x now d)) (filter (of_daemon d.number) b.calls) (submitted d.trace) (later_course d x now) k
closed_own d x now (Spawned p ok) b is h k =
    pairs_hold (IsCourseOf d) (IsCourseOf (with_entry x now d)) (filter (of_daemon d.number) b.calls) (submitted d.trace) (later_course d x now) k
closed_own d x now Wake b is h k =
    pairs_hold (IsCourseOf d) (IsCourseOf (with_entry x now d)) (filter (of_daemon d.number) b.calls) (submitted d.trace) (later_course d x now) k

-- .. and those that it makes.
made_own : (d : Daemon) (x : Entry) (now : Stamp) (cs : List Course) (ms : List Submitted) (calls : List Call) → IsEntered d x now
    → Pairwise (IsCourseOf (with_entry x now d)) (filter (of_daemon d.number) cs) ms
    → Pairwise (IsCourseOf (with_entry x now d)) (filter (of_daemon d.number) (made_calls now d.number cs calls))
    (fold (λ ns c. new_call (length d.trace) x.reading c ∷ ns) ms calls)
made_own d x now cs ms [] is h = h
made_own d x now cs ms (c ∷ calls) is h =
    made_own d x now (new_course now d.number c ∷ cs) (new_call (length d.trace) x.reading c ∷ ms) calls is
    (subst (λ xs. Pairwise (IsCourseOf (with_entry x now d)) xs (new_call (length d.trace) x.reading c ∷ ms))
    (sym (filter_has (of_daemon d.number) (new_course now d.number c) cs (eq-eqb d.number d.number refl))) (made_course d x now c is, h))

step_matched : (now : Stamp) (i : Input) (fx : Effects) (b : Machine) (d : Daemon) → IsEntered d (entry_of i fx b) now → AllAwait d i b.calls → AreNumbered (d ∷ b.ended)
    → Every (CallsOf b.calls) (d ∷ b.ended)
    → Every (CallsOf (made_calls now d.number (close_answered now i b).calls fx.calls)) (with_entry (entry_of i fx b) now d ∷ b.ended)
step_matched now i fx b d is h numbered k = (
  made_own d (entry_of i fx b) now (close_answered now i b).calls (mark d.trace (entry_of i fx b) i (submitted d.trace)) fx.calls is
      (closed_own d (entry_of i fx b) now i b is h k.0),
  every_both b.ended (subst (λ n. Every (λ (e : Daemon). e.number < n) b.ended) (sym numbered.0) (all_less b.ended numbered.1)) k.1,
) where
  every_both : (es : List Daemon) → Every (λ e. e.number < d.number) es → Every (CallsOf b.calls) es
      → Every (CallsOf (made_calls now d.number (close_answered now i b).calls fx.calls)) es
  every_both [] less old = tt
  every_both (e ∷ es) less old = (ended_matched now i fx b d e h less.0 old.0, every_both es less.1 old.1)

stepped_matched : (p : Program) (h : Header) (now : List Happening) (x : Happening) (m : ℕ) (a c : Machine) (g : Goes_on p h now x m a c) (b : Machine)
    → (i : Input) → Turned (world_at p h now) x.0 m a b → c ≡ after_step (stamp_now (next_step (first_change x.0 (world_at p h now))) b) i g.effects b
    → (d : Daemon) → b.daemon ≡ Some d → IsStamped d → AreNumbered (daemons_on b) → AllAwait d i b.calls → IsMatched b → IsMatched c
stepped_matched p h now x m a c g b i t is d runs stamped numbered waits k =
    let stamp : Stamp = stamp_now (next_step (first_change x.0 (world_at p h now))) b in
    let entered_now : IsEntered d (entry_of i g.effects b) stamp = record { reading = refl; place = sym (pairs_length IsStampOf d.stamps d.trace stamped) } in
    let after : Every (CallsOf (made_calls stamp d.number (close_answered stamp i b).calls g.effects.calls)) (with_entry (entry_of i g.effects b) stamp d ∷ b.ended) =
    step_matched stamp i g.effects b d entered_now waits (subst AreNumbered (daemons_are b d runs) numbered) (subst (Every (CallsOf b.calls)) (daemons_are b d runs) k) in
    let e : Machine = after_step stamp i g.effects b in
    let calls : e.calls ≡ made_calls stamp d.number (close_answered stamp i b).calls g.effects.calls =
    step_calls stamp i g.effects b ∙ ap (λ n. made_calls stamp n (close_answered stamp i b).calls g.effects.calls) (daemon_number_is b d runs) in
    let daemons : daemons_on e ≡ with_entry (entry_of i g.effects b) stamp d ∷ b.ended =
    daemons_are e (with_entry (entry_of i g.effects b) stamp d) (entered stamp i g.effects b d runs)
    ∙ ap (λ ds. with_entry (entry_of i g.effects b) stamp d ∷ ds) (step_ended stamp i g.effects b) in
    subst IsMatched (sym is) (subst (λ cs. Every (CallsOf cs) (daemons_on e)) (sym calls) (subst (Every (CallsOf (made_calls stamp d.number (close_answered stamp i b).calls g.effects.calls))) (sym daemons) after))

-- ---- runs

event_matched : (p : Program) (h : Header) (now : List Happening) (x : Happening) (m : ℕ) (a c : Machine) (g : Goes_on p h now x m a c) (b : Machine)
    → machine_at (first_change x.0 (world_at p h now)) m ≡ Some b → Turned (world_at p h now) x.0 m a b → Stepped (world_at p h now) x.0 g.effects m b c
    → IsMatched b → IsMatched c
event_matched p h now x m a c g b between t (Elsewhere is) k = subst IsMatched (sym is) k
event_matched p h now x m a c g b between t (Alone none same is) k =
    let w : World = world_at p h now in
    let quiet : g.effects.calls ≡ [] = (subst IsQuiet (sym (g.own none)) (own_quiet w x.0)).calls in
    let stamp : Stamp = stamp_now (next_step (first_change x.0 w)) b in
    subst IsMatched (sym is)
    (subst (λ calls. Every (CallsOf (made_calls stamp (daemon_number b) b.calls calls)) (daemons_on b)) (sym quiet) k)
event_matched p h now x m a c g b between t (Took i has same is) k =
    let w : World = world_at p h now in
    let d = runs_before w x.0 m a i g.may g.at same has in
    let stays : b.daemon ≡ Some d.0 = daemon_stays w x.0 m a b i has t ∙ d.1 in
    let counted : IsCountedOn a = counted_after p h now g.before m a g.at in
    let numbered : AreNumbered (daemons_on b) = daemons_numbered w m a b (turned_daemons w x.0 m a b g.settled t) counted.numbered in
    let stamped : IsStamped d.0 = entries_are_stamped p h now g.before m a d.0 g.at (running_has a d.0 d.1) in
    let waits : AllAwait d.0 i b.calls = awaits w x.0 m a b d.0 i g.may g.at between same t d.1 (each_distinct p h now g.before m a g.at) has in
    stepped_matched p h now x m a c g b i t is d.0 stays stamped numbered waits k

keeps : (p : Program) (h : Header) (now : List Happening) (x : Happening) (m : ℕ) (a c : Machine) → Goes_on p h now x m a c → IsMatched a → IsMatched c
keeps p h now x m a c g was =
    let b : Machine = g.becomes.middle in
    event_matched p h now x m a c g b g.becomes.between g.becomes.turned g.becomes.stepped
    (turned_matched (world_at p h now) x.0 m a b g.settled (counted_after p h now g.before m a g.at) (each_distinct p h now g.before m a g.at) g.becomes.turned was)

none_first : (cs : List Course) (ds : List Daemon) → cs ≡ [] → Every (λ d. d.trace ≡ []) ds → Every (CallsOf cs) ds
none_first cs [] none h = tt
none_first cs (d ∷ ds) none h = (none_yet cs d h.0 (subst (Every (λ c. c.daemon < d.number)) (sym none) tt), none_first cs ds none h.1)

no_calls : (p : Program) (h : Header) (m : ℕ) → (machine_of_header p (layout_with p.digest h.geometry) h m).calls ≡ []
unfolding machine_of_header
no_calls p h m = refl

first : (p : Program) (h : Header) (m : ℕ) → IsMatched (machine_of_header p (layout_with p.digest h.geometry) h m)
first p h m =
    let a : Machine = machine_of_header p (layout_with p.digest h.geometry) h m in
    none_first a.calls (daemons_on a) (no_calls p h m) (first_daemons p (layout_with p.digest h.geometry) h m (λ d. d.trace ≡ []) (λ s is. refl))

pub courses_are_calls : CoursesAreCalls
courses_are_calls p h xs run m a d at has =
    every_has (CallsOf a.calls) (daemons_on a) d (machines_keep p h (λ w n. IsMatched) (first p h) (keeps p h) xs run m a at) has
