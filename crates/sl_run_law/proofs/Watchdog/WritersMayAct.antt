-- What watchdogs promise of a lawful run, from what runs promise of calls, daemons and moments.
use Rattle.sl_ids.specs.Clocks.Watchdog.{Connected, Lately_reset}
use Rattle.sl_run_law.specs.Course.Mirrors.{AreNumbered, since_restart}
use Rattle.sl_run_law.specs.Course.CourseLaws.{CoursesAreCalls, CoursesHaveDaemons, DaemonsAreOfWorld, EntriesAreStamped, MachinesMirror}
use Rattle.sl_run_law.specs.Course.CallStamps.{AnswersAgree, AreCalls, IsCourseOf, Pairwise, courses_of}
use Rattle.sl_run.proofs.LawFacts.{orderly-front}
use Rattle.sl_run.specs.Lawful.{Orderly}
use Rattle.sl_run_law.specs.Moment.MomentsFollowSteps.{StampsDrift, point_of}
use Rattle.sl_words.proofs.Lists.{any_found, contains_cases, contains_first, contains_more, contains_none, find_inside, got_inside, kept}
use Rattle.sl_words.proofs.Options.{mapped_value, none_is, some_of, then_value}
use Rattle.sl_run.specs.LawfulConnections.{is_covered}
use Rattle.sl_run.specs.Safety.{Found, IsSession as IsSessionOf, SessionId, WasResetLately, is_course_of, was_reset, world_at}
use Rattle.sl_run.specs.Worlds.{Course, Daemon, Machine, Stamp, World, daemon_numbered, daemons_on, is_of_running, is_open, is_write_course, machine_at, may_land, resets_after, world_with}
use Rattle.sl_run.specs.declared.header.Header.{Header}
use Rattle.sl_run_law.proofs.WorldsGoOn.{run_goes}
use Rattle.sl_run_law.proofs.Sessions.WritesAreCovered.{writes_are_covered}
use Rattle.sl_run_law.proofs.Sessions.CallsAreMade.{calls_are_made}
use Rattle.sl_run_law.proofs.Sessions.CallOwners.{sessions_stay}
use Rattle.sl_run_law.specs.Sessions.SessionLaws.{IsSession}
use Rattle.sl_trace.specs.Sessions.{has_open_write, session_numbered}
use Rattle.sl_trace.specs.declared.session.Session.{Session}
use Rattle.sl_time.specs.Times.{TimingNumbers}
use Rattle.sl_trace.specs.WatchdogConnections.{connection_named}
use Rattle.sl_trace.specs.Traces.{Answered, Setting, Submitted, Trace, is_write, submitted}
use Rattle.sl_trace.specs.declared.effects.Call.{Call}
use Rattle.sl_run_law.proofs.Watchdog.FoundCalls.{call_inside, none_of, numbers_apart, open_write}
use Rattle.sl_run_law.proofs.Watchdog.ConnectionHeld.{held}
use Rattle.sl_run_law.proofs.Watchdog.KnownMachines.{IsKnown, RestsOn, known}
use Rattle.sl_run_law.proofs.Watchdog.Machines.{IsWatched, WasLost, either_daemon, lost_daemons}
use Rattle.sl_run_law.proofs.Watchdog.TraceNumbers.{number_is}
use Rattle.sl_run_law.proofs.Watchdog.ConnectionStands.{covered_open}
use Rattle.sl_run_law.proofs.Watchdog.StepsKeepWatch.{by_false, lost_running, number_below}
use Rattle.sl_run_law.proofs.Watchdog.AllWatched.{all_watched}
use Rattle.sl_run_law.specs.Watchdog.WatchdogLaws.{ActsStill, CoveredAreConnected, CoveredMayAct, WritersMayAct, WritesInFlightAreCovered}
use Rattle.sl_words.proofs.CaseLaws.{no_value}
use Rattle.sl_words.proofs.WordLaws.{and_true, some_is_true}
use Rattle.sl_words.specs.Words.{is_empty}
use Rattle.std.proofs.Common.{ap, arith, inl, inr, refl, subst, sym, ◌∙◌}
use Rattle.std.proofs.lemmas.Bool.{and_from, eq-eqb, eqb-true, lt-ltb, ltb-false}
use Rattle.std.specs.Prelude.{Bool, Contains, IsSome, IsTrue, List, None, Option, Some, [], cond, false, find, is_none, is_some, nat_lt, option_and_then, option_map, true, ℕ, ◌&&◌, ◌++◌, ◌+◌, ◌<◌, ◌==◌, ◌||◌, ◌∷◌, ◌≡◌, ◌≤◌, ◌⊎◌}

-- ---- a session of a world

-- Where the session is found.
record IsFound (w : World) (i : SessionId) (f : Found) : Type 0 where
  at : machine_at w i.machine ≡ Some f.machine
  daemon : Contains (daemons_on f.machine) f.daemon × (f.daemon.number ≡ i.daemon)
  session : session_numbered f.daemon.setting f.daemon.trace i.number ≡ Some f.session
  now : f.now ≡ w.moment

found_in : (w : World) (i : SessionId) (a : Machine) (d : Daemon) (s : Session) (f : Found) → machine_at w i.machine ≡ Some a → daemon_numbered a i.daemon ≡ Some d
    → session_numbered d.setting d.trace i.number ≡ Some s → record { machine = a; daemon = d; session = s; now = w.moment } ≡ f → IsFound w i f
found_in w i a d s f at numbered session is =
    let there = find_inside (λ (x : Daemon). x.number == i.daemon) (daemons_on a) d numbered in
    subst (λ (x : Found). IsFound w i x) is (record { at = at; daemon = (there.0, eqb-true d.number i.daemon there.1); session = session; now = refl })

is_found : (w : World) (i : SessionId) (f : Found) → IsSessionOf w i f → IsFound w i f
is_found w i f h =
    let a = then_value (λ (a : Machine). option_and_then (λ (d : Daemon). option_map (λ (s : Session). record { machine = a; daemon = d; session = s; now = w.moment })
    (session_numbered d.setting d.trace i.number)) (daemon_numbered a i.daemon)) (machine_at w i.machine) f h in
    let d = then_value (λ (d : Daemon). option_map (λ (s : Session). record { machine = a.0; daemon = d; session = s; now = w.moment }) (session_numbered d.setting d.trace i.number))
    (daemon_numbered a.0 i.daemon) f a.2 in
    let s = mapped_value (λ (s : Session). record { machine = a.0; daemon = d.0; session = s; now = w.moment }) (session_numbered d.0.setting d.0.trace i.number) f d.2 in
    found_in w i a.0 d.0 s.0 f a.1 d.1 s.1 s.2

-- It is a session of its trace.
pub itself : (st : Setting) (es : Trace) (n : ℕ) (s : Session) → session_numbered st es n ≡ Some s → IsSession st es s
itself st es n s at = ap (λ k. session_numbered st es k) (number_is st es n s at) ∙ at

-- ---- covered sessions

stands : RestsOn → CoveredAreConnected
stands on p h xs run i f is since covered =
    let w : World = world_at p h xs in
    let g = is_found w i f is in
    let r = held h.timing w.moment w.step f.machine f.daemon f.session (known on p h xs run i.machine f.machine g.at) (all_watched on p h xs run i.machine f.machine g.at) since
    (itself f.daemon.setting f.daemon.trace i.number f.session g.session) covered in
    record { stamp = r.stamp; from = r.from; connected = r.connected }

pub covered_are_connected_given : MachinesMirror → EntriesAreStamped → DaemonsAreOfWorld → StampsDrift → CoveredAreConnected
covered_are_connected_given mirror stamped of_world drift = stands (record { mirror = mirror; stamped = stamped; of_world = of_world; drift = drift })

-- Where no reset since the daemon began is more than `land` ago, none of them is.
lately_reset : (t : TimingNumbers) (f : Found) → f.daemon.setting.timing ≡ t → was_reset f ≡ false → (r : Stamp) → Contains f.machine.resets r → f.daemon.begun.step < r.step
    → f.now ≤ r.moment + t.land
lately_reset t f timing soon r there after =
    subst (λ (x : TimingNumbers). f.now ≤ r.moment + x.land) timing
    (ltb-false (r.moment + f.daemon.setting.timing.land) f.now
    (none_of (λ (x : Stamp). nat_lt (x.moment + f.daemon.setting.timing.land) f.now) (resets_after f.machine f.daemon.begun.step) r soon
    (kept (λ (x : Stamp). nat_lt f.daemon.begun.step x.step) f.machine.resets r (lt-ltb f.daemon.begun.step r.step after) there)))

covered_by : (h : Header) (w : World) (i : SessionId) (f : Found) → IsFound w i f → IsKnown h.timing f.machine → IsWatched h.timing w.moment w.step f.machine → was_reset f ≡ false
    → is_covered f.daemon.trace f.session ≡ true → (since_restart f.machine ≡ Some f.daemon) ⊎ Contains (lost_daemons f.machine) f.daemon → ActsStill h w f
covered_by h w i f g k q soon covered (inl since) =
    let r = held h.timing w.moment w.step f.machine f.daemon f.session k q since (itself f.daemon.setting f.daemon.trace i.number f.session g.session) covered in
    record { stamp = r.stamp; from = r.from; acts = Connected (point_of f.machine.kept) r.connected }
covered_by h w i f g k q soon covered (inr lost) =
    let l = q.lost f.daemon lost in
    let r = l.stood f.session (itself f.daemon.setting f.daemon.trace i.number f.session g.session) covered in
    record {
      stamp = r.1.stamp;
      from = r.1.from;
      acts = Lately_reset (point_of r.0) l.reset.moment r.1.connected (subst (λ n. n ≤ l.reset.moment + h.timing.land) g.now
          (lately_reset h.timing f (k.timing f.daemon g.daemon.0) soon l.reset l.there l.begun));
    }

covered_acts : RestsOn → CoveredMayAct
covered_acts on p h xs run i f is soon covered =
    let w : World = world_at p h xs in
    let g = is_found w i f is in
    covered_by h w i f g (known on p h xs run i.machine f.machine g.at) (all_watched on p h xs run i.machine f.machine g.at) soon covered
    (either_daemon (f.machine.up && f.machine.used) (daemons_on f.machine) f.daemon g.daemon.0)

pub covered_may_act_given : MachinesMirror → EntriesAreStamped → DaemonsAreOfWorld → StampsDrift → CoveredMayAct
covered_may_act_given mirror stamped of_world drift = covered_acts (record { mirror = mirror; stamped = stamped; of_world = of_world; drift = drift })

-- ---- calls of a machine and of its daemon's trace

pub pair_of : {A B : Type 0} (R : A → B → Type 0) (xs : List A) (ys : List B) (x : A) → Pairwise R xs ys → Contains xs x → (y : B) × Contains ys y × R x y
pair_of R [] ys x h there = absurd (contains_none x there)
pair_of R (z ∷ xs) [] x h there = absurd h
pair_of R (z ∷ xs) (y ∷ ys) x h there =
    elim (contains_cases z xs x there) as (λ q. (v : _) × Contains (y ∷ ys) v × R x v) [
      | inl same ↦ (y, contains_first y ys, subst (λ u. R u y) same h.0)
      | inr more ↦ let r = pair_of R xs ys x h.1 more in (r.0, contains_more y ys r.0 r.1, r.2)
    ]

pub unanswered_by : (d : Daemon) (c : Course) (o : Option Answered) → c.answered ≡ None → AnswersAgree d c o → o ≡ None
unanswered_by d c None none h = refl
unanswered_by d c (Some a) none h = absurd (no_value h.stamp c.answered h.answered none)

-- An open write of a machine, with its daemon and the call of its trace.
record IsOpenWrite (a : Machine) (c : Course) (d : Daemon) : Type 0 where
  call : Submitted
  inside : Contains (submitted d.trace) call
  same : call.call ≡ c.call
  waits : call.answer ≡ None
  writes : is_write call.call.op ≡ true

open_write_of : (a : Machine) (c : Course) (d : Daemon) → AreCalls a d → Contains a.calls c → c.daemon ≡ d.number → is_write_course c ≡ true → c.answered ≡ None → IsOpenWrite a c d
open_write_of a c d calls there its writes none =
    let r = pair_of (IsCourseOf d) (courses_of a d.number) (submitted d.trace) c calls
    (kept (λ (x : Course). x.daemon == d.number) a.calls c (eq-eqb c.daemon d.number its) there) in
    record {
      call = r.0;
      inside = r.1;
      same = r.2.call;
      waits = unanswered_by d c r.0.answer none r.2.answers;
      writes = ap (λ x. is_write x.op) r.2.call ∙ writes;
    }

waits_open : (a : Machine) (c : Course) (d : Daemon) (s : Session) → IsOpenWrite a c d → c.call.session ≡ s.number → has_open_write d.trace s ≡ true
waits_open a c d s o mine = open_write d.trace s o.call (call_inside d.trace s o.call o.inside (ap (λ x. x.session) o.same ∙ mine)) o.waits o.writes

-- ---- a write of a daemon that was reset

apart_by : (a : Machine) (d x : Daemon) → AreNumbered (daemons_on a) → a.daemon ≡ Some x → a.up ≡ true → a.used ≡ true → Contains (lost_daemons a) d → x.number ≡ d.number → ⊥
apart_by a d x numbers runs up used there same =
    let all : AreNumbered (x ∷ a.ended) = subst (λ o. AreNumbered (elim o as (λ y. List Daemon) [ None ↦ a.ended | Some y ↦ y ∷ a.ended ])) runs numbers in
    let below = number_below a.ended d all.1 (subst (λ ds. Contains ds d) (lost_running a x runs up used) there) in
    let place = all.0 in
    absurd (omega (arith, below, place, same))

-- Its daemon doesn't run.
not_running : (t : TimingNumbers) (a : Machine) (c : Course) (d : Daemon) → IsKnown t a → Contains (lost_daemons a) d → c.daemon ≡ d.number → is_of_running a c ≡ true → ⊥
not_running t a c d k there its runs =
    let x = some_is_true (λ (y : Daemon). y.number == c.daemon) a.daemon runs in
    apart_by a d x.0 k.mirrors.numbered x.1 (by_false a.up (λ down. no_value x.0 a.daemon x.1 (k.settled.down down)))
    (by_false a.used (λ unused. no_value x.0 a.daemon x.1 (k.settled.unused unused))) there (eqb-true x.0.number c.daemon x.2 ∙ its)

or_second : (a b : Bool) → (a ≡ true → ⊥) → (a || b) ≡ true → b ≡ true
or_second true b never h = absurd (never refl)
or_second false b never h = h

it_may_land : (t : TimingNumbers) (a : Machine) (c : Course) (d : Daemon) → IsKnown t a → Contains (lost_daemons a) d → c.daemon ≡ d.number → is_open a c ≡ true → may_land c ≡ true
it_may_land t a c d k there its open_is =
    or_second (is_of_running a c) (may_land c) (not_running t a c d k there its) (and_true (is_none c.answered) (is_of_running a c || may_land c) open_is).1

-- The reset came after it.
reset_after : (t : TimingNumbers) (a : Machine) (c : Course) (d : Daemon) → (l : WasLost t a.resets a.calls d) → Contains a.calls c → c.daemon ≡ d.number → Contains (resets_after a c.made.step) l.reset
reset_after t a c d l there its =
    kept (λ (x : Stamp). nat_lt c.made.step x.step) a.resets l.reset (lt-ltb c.made.step l.reset.step (l.after c there its)) l.there

-- ---- writers

acts_by : (h : Header) (w : World) (f : Found) (c : Course) → IsKnown h.timing f.machine → IsWatched h.timing w.moment w.step f.machine → IsSession f.daemon.setting f.daemon.trace f.session
    → Contains f.machine.calls c → c.daemon ≡ f.daemon.number → is_open f.machine c ≡ true → Contains (daemons_on f.machine) f.daemon
    → has_open_write f.daemon.trace f.session ≡ true → (since_restart f.machine ≡ Some f.daemon) ⊎ Contains (lost_daemons f.machine) f.daemon → ActsStill h w f
acts_by h w f c k q its inside mine open_is there waits (inl since) =
    let r = held h.timing w.moment w.step f.machine f.daemon f.session k q since its (covered_open f.daemon.setting f.daemon.trace f.session (k.lawful f.daemon there) its waits) in
    record { stamp = r.stamp; from = r.from; acts = Connected (point_of f.machine.kept) r.connected }
acts_by h w f c k q its inside mine open_is there waits (inr lost) =
    let l = q.lost f.daemon lost in
    let r = l.stood f.session its (covered_open f.daemon.setting f.daemon.trace f.session (k.lawful f.daemon there) its waits) in
    record {
      stamp = r.1.stamp;
      from = r.1.from;
      acts = Lately_reset (point_of r.0) l.reset.moment r.1.connected
          (q.lately c inside (it_may_land h.timing f.machine c f.daemon k lost mine open_is) l.reset (reset_after h.timing f.machine c f.daemon l inside mine));
    }

writers : RestsOn → CoursesAreCalls → WritersMayAct
writers on calls p h xs run i f is flies =
    let w : World = world_at p h xs in
    let g = is_found w i f is in
    let found = any_found (λ (c : Course). is_course_of i c && is_write_course c && is_open f.machine c) f.machine.calls flies in
    let c : Course = found.0 in
    let b = and_true (is_course_of i c && is_write_course c) (is_open f.machine c) found.2 in
    let kind = and_true (is_course_of i c) (is_write_course c) b.0 in
    let whose = and_true (c.daemon == i.daemon) (c.call.session == i.number) kind.0 in
    let there = g.daemon.0 in
    let mine = eqb-true c.daemon i.daemon whose.0 ∙ sym g.daemon.1 in
    let its = itself f.daemon.setting f.daemon.trace i.number f.session g.session in
    let number = eqb-true c.call.session i.number whose.1 ∙ sym (number_is f.daemon.setting f.daemon.trace i.number f.session g.session) in
    let none = none_is c.answered (and_true (is_none c.answered) (is_of_running f.machine c || may_land c) b.1).0 in
    let o = open_write_of f.machine c f.daemon (calls p h xs run i.machine f.machine f.daemon g.at there) found.1 mine kind.1 none in
    acts_by h w f c (known on p h xs run i.machine f.machine g.at) (all_watched on p h xs run i.machine f.machine g.at) its found.1 mine b.1 there
    (waits_open f.machine c f.daemon f.session o number) (either_daemon (f.machine.up && f.machine.used) (daemons_on f.machine) f.daemon there)

pub writers_may_act_given : CoursesAreCalls → MachinesMirror → EntriesAreStamped → DaemonsAreOfWorld → StampsDrift → WritersMayAct
writers_may_act_given calls mirror stamped of_world drift = writers (record { mirror = mirror; stamped = stamped; of_world = of_world; drift = drift }) calls

-- ---- writes in flight

-- A call of a lawful trace is some session's.
session_of_call : (st : Setting) (es : Trace) (m : Submitted) → Orderly st es → Contains (submitted es) m → (s : Session) × (session_numbered st es m.call.session ≡ Some s)
session_of_call st es m h there =
    let d = calls_are_made es m there in
    let whole : Orderly st (d.later ++ d.entry ∷ d.past) = subst (λ x. Orderly st x) d.whole h in
    let law = orderly-front st d.later (d.entry ∷ d.past) whole in
    let s = some_of (session_numbered st (d.entry ∷ d.past) m.call.session) (law.calls.0.owned m.call (got_inside d.entry.effects.calls d.index m.call d.call)) in
    (s.0, subst (λ x. session_numbered st x m.call.session ≡ Some s.0) (sym d.whole) (sessions_stay st d.later (d.entry ∷ d.past) m.call.session s.0 s.1))

-- A daemon is found by its number.
daemon_found : (ds : List Daemon) (d : Daemon) → AreNumbered ds → Contains ds d → find (λ (x : Daemon). x.number == d.number) ds ≡ Some d
daemon_found [] d h there = absurd (contains_none d there)
daemon_found (x ∷ ds) d h there =
    elim (contains_cases x ds d there) as (λ z. cond (x.number == d.number) (Some x) (find (λ (y : Daemon). y.number == d.number) ds) ≡ Some d) [
      | inl same ↦
          ap (λ b. cond b (Some x) (find (λ (y : Daemon). y.number == d.number) ds)) (eq-eqb x.number d.number (ap (λ (y : Daemon). y.number) same))
          ∙ ap (λ y. Some y) same
      | inr old ↦
          let below = number_below ds d h.1 old in
          let place = h.0 in
          ap (λ b. cond b (Some x) (find (λ (y : Daemon). y.number == d.number) ds)) (numbers_apart x.number d.number (λ same. omega (arith, below, place, same)))
          ∙ daemon_found ds d h.1 old
    ]

-- The session of a call of a machine is one of the world.
is_session : (w : World) (m n : ℕ) (a : Machine) (d : Daemon) (s : Session) → machine_at w m ≡ Some a → AreNumbered (daemons_on a) → Contains (daemons_on a) d
    → session_numbered d.setting d.trace n ≡ Some s
    → IsSessionOf w (record { machine = m; daemon = d.number; number = n }) (record { machine = a; daemon = d; session = s; now = w.moment })
is_session w m n a d s at numbers there its =
    ap (λ o. option_and_then (λ (a : Machine). option_and_then (λ (x : Daemon). option_map (λ (y : Session). record { machine = a; daemon = x; session = y; now = w.moment })
    (session_numbered x.setting x.trace n)) (daemon_numbered a d.number)) o) at
    ∙ ap (λ o. option_and_then (λ (x : Daemon). option_map (λ (y : Session). record { machine = a; daemon = x; session = y; now = w.moment }) (session_numbered x.setting x.trace n)) o)
    (daemon_found (daemons_on a) d numbers there)
    ∙ ap (λ o. option_map (λ (y : Session). record { machine = a; daemon = d; session = y; now = w.moment }) o) its

not_empty : (rs : List Stamp) (r : Stamp) → Contains rs r → is_empty rs ≡ false
not_empty [] r there = absurd (contains_none r there)
not_empty (x ∷ rs) r there = refl

abbrev ByConnection : World → ℕ → Machine → Course → Type 0
ByConnection w m a c =
    (i : SessionId) × (f : Found) × IsSessionOf w i f × (i.machine ≡ m) × IsTrue (is_course_of i c) × IsSome (connection_named a.connections f.session.lockspace)

by_connection : (t : TimingNumbers) (w : World) (m : ℕ) (a : Machine) (c : Course) (d : Daemon) (s : Session) → machine_at w m ≡ Some a → IsKnown t a → Contains (daemons_on a) d
    → c.daemon ≡ d.number → session_numbered d.setting d.trace c.call.session ≡ Some s → has_open_write d.trace s ≡ true → since_restart a ≡ Some d → ByConnection w m a c
by_connection t w m a c d s at k there its session waits since =
    let covered = writes_are_covered d.setting d.trace s (k.lawful d there) (itself d.setting d.trace c.call.session s session) waits in (
      record { machine = m; daemon = d.number; number = c.call.session },
      record { machine = a; daemon = d; session = s; now = w.moment },
      is_session w m c.call.session a d s at k.mirrors.numbered there session,
      refl,
      and_from (c.daemon == d.number) (c.call.session == c.call.session) (eq-eqb c.daemon d.number its) (eq-eqb c.call.session c.call.session refl),
      ap (λ cs. is_some (connection_named cs s.lockspace)) (k.mirrors.connected d since) ∙ ap (λ o. is_some o) covered.registered,
    )

by_reset : (t : TimingNumbers) (w : World) (m : ℕ) (a : Machine) (c : Course) (d : Daemon) → IsKnown t a → IsWatched t w.moment w.step a → w.header.timing ≡ t → Contains a.calls c
    → c.daemon ≡ d.number → is_open a c ≡ true → Contains (lost_daemons a) d → WasResetLately w a c.made.step
by_reset t w m a c d k q timing inside its open_is lost =
    let l = q.lost d lost in
    record {
      reset = not_empty (resets_after a c.made.step) l.reset (reset_after t a c d l inside its);
      lately = λ r after.
          subst (λ (x : TimingNumbers). w.moment ≤ r.moment + x.land) (sym timing) (q.lately c inside (it_may_land t a c d k lost its open_is) r after);
    }

flights : RestsOn → CoursesAreCalls → CoursesHaveDaemons → WritesInFlightAreCovered
flights on calls have p h xs run m a c at inside is =
    let w : World = world_at p h xs in
    let header = (run_goes (world_with p h) xs).header in
    let k = known on p h xs run m a at in
    let b = and_true (is_write_course c) (is_open a c) is in
    let owner = have p h xs run m a c at inside in
    let d : Daemon = owner.0 in
    let its = sym owner.2 in
    let none = none_is c.answered (and_true (is_none c.answered) (is_of_running a c || may_land c) b.1).0 in
    let o = open_write_of a c d (calls p h xs run m a d at owner.1) inside its b.0 none in
    let s = session_of_call d.setting d.trace o.call (k.lawful d owner.1) o.inside in
    let session = ap (λ (x : Call). session_numbered d.setting d.trace x.session) (sym o.same) ∙ s.1 in
    let waits = waits_open a c d s.0 o (sym (number_is d.setting d.trace c.call.session s.0 session)) in
    elim (either_daemon (a.up && a.used) (daemons_on a) d owner.1) as (λ z. ByConnection w m a c ⊎ WasResetLately w a c.made.step) [
      | inl since ↦ inl (by_connection h.timing w m a c d s.0 at k owner.1 its session waits since)
      | inr lost ↦ inr (by_reset h.timing w m a c d k (all_watched on p h xs run m a at) (ap (λ (y : Header). y.timing) header) inside its b.1 lost)
    ]

pub writes_in_flight_are_covered_given : CoursesAreCalls → CoursesHaveDaemons → MachinesMirror → EntriesAreStamped → DaemonsAreOfWorld → StampsDrift → WritesInFlightAreCovered
writes_in_flight_are_covered_given calls have mirror stamped of_world drift =
    flights (record { mirror = mirror; stamped = stamped; of_world = of_world; drift = drift }) calls have
