-- At moment 0 each machine is watched.
use Rattle.sl_area.specs.AreaSizes.{Layout, layout_with}
use Rattle.sl_run_law.proofs.Moment.FirstStamps.{all_are}
use Rattle.sl_words.proofs.Lists.{contains_none}
use Rattle.sl_run.specs.Locks.{fresh_locks}
use Rattle.sl_run.specs.Worlds.{Daemon, Machine, Program, clock_reading, first_numbers, first_stamp, given_of, machine_at, machine_of_header, new_daemon, setting_of, world_with}
use Rattle.sl_run.specs.declared.header.Header.{Header}
use Rattle.sl_run.specs.declared.header.LockspaceLine.{LockspaceLine}
use Rattle.sl_run.specs.declared.header.SessionLine.{SessionLine}
use Rattle.sl_run_law.proofs.MachineWalk.{index}
use Rattle.sl_trace.specs.declared.session.Session.{Session}
use Rattle.sl_time.specs.Times.{IsTiming, reading_of}
use Rattle.sl_trace.specs.WatchdogConnections.{given_connection}
use Rattle.sl_trace.specs.declared.input.Given.{Given}
use Rattle.sl_run_law.proofs.Watchdog.Freshness.{IsFresh, acts_first, some_fail}
use Rattle.sl_run_law.proofs.Watchdog.Machines.{IsWatched}
use Rattle.sl_run_law.proofs.Watchdog.TraceNumbers.{given_one}
use Rattle.sl_run_law.proofs.Watchdog.Stamps.{GivenNow}
use Rattle.sl_words.proofs.CaseLaws.{none_some, some_value}
use Rattle.std.proofs.Common.{ap, arith, refl, subst, sym, ◌∙◌}
use Rattle.std.specs.List.{cons_option}
use Rattle.std.specs.Prelude.{Bool, List, None, Option, Some, [], bytes_eq, false, filter_map, find, is_some, map, option_map, slice_get, suc, true, zero, ℕ, ◌*◌, ◌-◌, ◌==◌, ◌∷◌, ◌≡◌}

filtered_by : (f : SessionLine → Option Given) (x : SessionLine) (xs : List SessionLine) (n : ℕ) (g : Given) (o : Option Given) → f x ≡ o
    → slice_get (cons_option o (filter_map f xs)) n ≡ Some g
    → ((k : ℕ) → slice_get (filter_map f xs) k ≡ Some g → (y : SessionLine) × (f y ≡ Some g)) → (y : SessionLine) × (f y ≡ Some g)
filtered_by f x xs n g None is at rest = rest n at
filtered_by f x xs zero g (Some y) is at rest = (x, is ∙ at)
filtered_by f x xs (suc n) g (Some y) is at rest = rest n at

filtered : (f : SessionLine → Option Given) (xs : List SessionLine) (n : ℕ) (g : Given) → slice_get (filter_map f xs) n ≡ Some g → (y : SessionLine) × (f y ≡ Some g)
filtered f [] n g at = absurd (none_some g at)
filtered f (x ∷ xs) n g at = filtered_by f x xs n g (f x) refl at (λ k rest. filtered f xs k g rest)

line_by : (h : Header) (m : ℕ) (s : SessionLine) (g : Given) (o : Option LockspaceLine)
    → option_map (λ (l : LockspaceLine). record { lockspace = s.lockspace; id = s.id; path = l.path; offset = l.offset; renewed = clock_reading h m }) o ≡ Some g
    → g.renewed ≡ clock_reading h m
line_by h m s g None is = absurd (none_some g is)
line_by h m s g (Some l) is =
    ap (λ (x : Given). x.renewed) (sym (some_value (record { lockspace = s.lockspace; id = s.id; path = l.path; offset = l.offset; renewed = clock_reading h m }) g is))

given_by : (h : Header) (m : ℕ) (s : SessionLine) (g : Given) (b : Bool)
    → elim b as (λ x. Option Given) [
      | false ↦ None
      | true ↦ option_map (λ (l : LockspaceLine). record { lockspace = s.lockspace; id = s.id; path = l.path; offset = l.offset; renewed = clock_reading h m })
          (find (λ (l : LockspaceLine). bytes_eq l.name s.lockspace) h.lockspaces)
    ] ≡ Some g → g.renewed ≡ clock_reading h m
given_by h m s g false is = absurd (none_some g is)
given_by h m s g true is = line_by h m s g (find (λ (l : LockspaceLine). bytes_eq l.name s.lockspace) h.lockspaces) is

reading_first : (c : ℕ) → reading_of (1000 * c) ≡ c
reading_first c = omega arith

given_first : (h : Header) (m n : ℕ) (g : Given) → slice_get (filter_map (given_of h m) h.sessions) n ≡ Some g → g.renewed ≡ reading_of (1000 * clock_reading h m)
given_first h m n g at =
    let r = filtered (given_of h m) h.sessions n g at in
    given_by h m r.0 g (r.0.machine == m) r.1 ∙ sym (reading_first (clock_reading h m))

abbrev daemon_of : Program → Layout → Header → ℕ → SessionLine → Daemon
daemon_of p g h m s = new_daemon 0 (setting_of p g h m s.name first_numbers (filter_map (given_of h m) h.sessions)) (first_stamp h m)

fresh_first : (p : Program) (g : Layout) (h : Header) (m : ℕ) (s : SessionLine) (x : Session) → IsTiming h.timing
    → IsFresh (daemon_of p g h m s).setting [] x (reading_of (1000 * clock_reading h m))
fresh_first p g h m s x timing its covered =
    let d : Daemon = daemon_of p g h m s in
    let one = given_one d.setting x.number x its in
    let same = one.3 ∙ given_first h m x.number one.0 one.1 in
    let until = acts_first d.setting x its in
    let some = some_fail h.timing timing in
    omega (arith, same, until, some)

begins_by : (p : Program) (g : Layout) (h : Header) (m : ℕ) (o : Option SessionLine) → IsTiming h.timing → IsWatched h.timing 0 1 (record {
  up = true;
  clock = 1000 * clock_reading h m;
  kept = first_stamp h m;
  connections = map (given_connection h.timing) (filter_map (given_of h m) h.sessions);
  daemon = option_map (daemon_of p g h m) o;
  ended = [];
  used = is_some (option_map (daemon_of p g h m) o);
  calls = [];
  holdings = [];
  lingering = [];
  resets = [];
  locks = fresh_locks h;
})
begins_by p g h m None timing =
    record {
      past = omega arith;
      fires = λ up. omega arith;
      resets = λ r there. absurd (contains_none r there);
      made = λ c there. absurd (contains_none c there);
      lately = λ c there. absurd (contains_none c there);
      given = λ d since. absurd (none_some d since);
      fresh = λ d s since. absurd (none_some d since);
      lost = λ d there. absurd (contains_none d there);
    }
begins_by p g h m (Some s) timing =
    record {
      past = omega arith;
      fires = λ up. omega arith;
      resets = λ r there. absurd (contains_none r there);
      made = λ c there. absurd (contains_none c there);
      lately = λ c there. absurd (contains_none c there);
      given = λ d since. subst GivenNow (some_value (daemon_of p g h m s) d since) (λ n x at. given_first h m n x at);
      fresh = λ d x since.
          subst (λ (y : Daemon). IsFresh y.setting y.trace x (reading_of (1000 * clock_reading h m))) (some_value (daemon_of p g h m s) d since) (fresh_first p g h m s x timing);
      lost = λ d there. absurd (contains_none d there);
    }

begins_watched : (p : Program) (g : Layout) (h : Header) (m : ℕ) → IsTiming h.timing → IsWatched h.timing 0 1 (machine_of_header p g h m)
unfolding machine_of_header
begins_watched p g h m timing = begins_by p g h m (find (λ (s : SessionLine). s.machine == m) h.sessions) timing

pub watched_first : (p : Program) (h : Header) (m : ℕ) (a : Machine) → IsTiming h.timing → machine_at (world_with p h) m ≡ Some a → IsWatched h.timing 0 1 a
watched_first p h m a timing at =
    let g : Layout = layout_with p.digest h.geometry in
    all_are (IsWatched h.timing 0 1) (machine_of_header p g h) 1 h.machines (m - 1) a (λ n. begins_watched p g h n timing) (index (world_with p h) m a at).1
