-- What an event makes of the daemons of a machine: none ends in their list, one begins, or the one that runs has one more entry.
use Rattle.sl_run_law.proofs.Course.MachineTurns.{Alone, Began, Called, Came_up, Clocked, Crashed, Elsewhere, Stays, Stepped, Tested, Took, Turned, Went_down}
use Rattle.sl_words.proofs.Lists.{contains_cases, contains_none}
use Rattle.sl_run.specs.EventChanges.{after_step, next_step, first_change, with_entry}
use Rattle.sl_run.specs.Worlds.{Daemon, Machine, Program, Stamp, World, daemons_on, first_numbers, first_stamp, given_of, machine_of_header, names_of, new_daemon, next_numbers, reading_now, setting_of, stamp_now}
use Rattle.sl_run.specs.declared.header.Header.{Header}
use Rattle.sl_run.specs.declared.header.SessionLine.{SessionLine}
use Rattle.sl_area.specs.AreaSizes.{Layout}
use Rattle.sl_run.specs.declared.event.Event.{Event}
use Rattle.sl_run_law.specs.DaemonsGoOn.{IsSettled}
use Rattle.sl_run_law.specs.FatesStay.{Every}
use Rattle.sl_time.specs.Times.{reading_of}
use Rattle.sl_trace.specs.declared.effects.Effects.{Effects}
use Rattle.sl_trace.specs.declared.effects.Entry.{Entry}
use Rattle.sl_trace.specs.declared.input.Input.TheVariants.{Answer as Told, Exit, Line, Number, Spawned, Wake}
use Rattle.sl_trace.specs.declared.input.Input.{Input}
use Rattle.std.proofs.Common.{ap, inl, inr, refl, subst, sym, ◌∙◌}
use Rattle.std.specs.List.{list_any}
use Rattle.std.specs.Prelude.{Contains, List, None, Option, Some, bytes_eq, false, filter_map, find, length, option_map, [], ℕ, ◌==◌, ◌∷◌, ◌≡◌}

-- A daemon that begins.
pub record IsNewest (w : World) (m : ℕ) (a : Machine) (d : Daemon) : Type 0 where
  pub name : List ℕ
  pub fresh : list_any (bytes_eq name) (names_of w) ≡ false
  pub is : d ≡ new_daemon (length (daemons_on a)) (setting_of w.program w.layout w.header m name (next_numbers a) []) (stamp_now w a)

-- The daemons of a machine before a change and after it.
pub data DaemonsTurn (w : World) (m : ℕ) (a b : Machine) : Type 0 where
  Same_daemons : daemons_on b ≡ daemons_on a → DaemonsTurn w m a b
  One_begins : (d : Daemon) → IsNewest w m a d → daemons_on b ≡ d ∷ daemons_on a → DaemonsTurn w m a b
  One_enters : (d : Daemon) (ds : List Daemon) (e : Entry) (s : Stamp) → reading_of s.clock ≡ e.reading → daemons_on a ≡ d ∷ ds
      → daemons_on b ≡ with_entry e s d ∷ ds
      → DaemonsTurn w m a b

begun_by : (o : Option Daemon) (ds : List Daemon) → o ≡ None → ds ≡ elim o as (λ x. List Daemon) [ None ↦ ds | Some d ↦ d ∷ ds ]
begun_by o ds none = subst (λ x. ds ≡ elim x as (λ y. List Daemon) [ None ↦ ds | Some d ↦ d ∷ ds ]) (sym none) refl

-- Where none runs, all have ended.
pub all_ended : (a : Machine) → a.daemon ≡ None → a.ended ≡ daemons_on a
all_ended a none = begun_by a.daemon a.ended none

pub turned_daemons : (w : World) (e : Event) (m : ℕ) (a b : Machine) → IsSettled a → Turned w e m a b → DaemonsTurn w m a b
turned_daemons w e m a b s (Stays is) = Same_daemons (ap daemons_on is)
turned_daemons w e m a b s (Clocked n is) = Same_daemons (ap daemons_on is)
turned_daemons w e m a b s (Called n f g h k is) = Same_daemons (ap daemons_on is)
turned_daemons w e m a b s (Tested t is) = Same_daemons (ap daemons_on is)
turned_daemons w e m a b s (Crashed event is) = Same_daemons (ap daemons_on is)
turned_daemons w e m a b s (Went_down event up is) = Same_daemons (ap daemons_on is)
turned_daemons w e m a b s (Came_up event down is) = Same_daemons (ap daemons_on is)
turned_daemons w e m a b s (Began name event up used fresh is) =
    let d : Daemon = new_daemon (length (daemons_on a)) (setting_of w.program w.layout w.header m name (next_numbers a) []) (stamp_now w a) in
    One_begins d (record { name = name; fresh = fresh; is = refl }) (ap daemons_on is ∙ ap (λ ds. d ∷ ds) (all_ended a (s.unused used)))

-- Where one runs, it stands before those that ended.
pub daemons_are : (a : Machine) (d : Daemon) → a.daemon ≡ Some d → daemons_on a ≡ d ∷ a.ended
daemons_are a d runs = ap (λ o. elim o as (λ x. List Daemon) [ None ↦ a.ended | Some y ↦ y ∷ a.ended ]) runs

entered_by : (w : World) (m : ℕ) (b c : Machine) (e : Entry) (s : Stamp) (o : Option Daemon) → b.daemon ≡ o → c.daemon ≡ option_map (with_entry e s) o → c.ended ≡ b.ended
    → reading_of s.clock ≡ e.reading → DaemonsTurn w m b c
entered_by w m b c e s None was is ended reading =
    Same_daemons (sym (all_ended c is) ∙ ended ∙ all_ended b was)
entered_by w m b c e s (Some d) was is ended reading =
    One_enters d b.ended e s reading (daemons_are b d was) (daemons_are c (with_entry e s d) is ∙ ap (λ ds. with_entry e s d ∷ ds) ended)

abbrev pub entry_of : Input → Effects → Machine → Entry
entry_of i fx a = record { reading = reading_now a; input = i; effects = fx }

pub step_daemon : (now : Stamp) (i : Input) (fx : Effects) (a : Machine) → (after_step now i fx a).daemon ≡ option_map (with_entry (entry_of i fx a) now) a.daemon
step_daemon now (Line text) fx a = refl
step_daemon now (Number text) fx a = refl
step_daemon now (Told n answer) fx a = refl
step_daemon now Wake fx a = refl
step_daemon now (Exit p) fx a = refl
step_daemon now (Spawned p ok) fx a = refl

pub step_ended : (now : Stamp) (i : Input) (fx : Effects) (a : Machine) → (after_step now i fx a).ended ≡ a.ended
step_ended now (Line text) fx a = refl
step_ended now (Number text) fx a = refl
step_ended now (Told n answer) fx a = refl
step_ended now Wake fx a = refl
step_ended now (Exit p) fx a = refl
step_ended now (Spawned p ok) fx a = refl

pub stepped_daemons : (w : World) (e : Event) (fx : Effects) (m : ℕ) (b c : Machine) → Stepped w e fx m b c → DaemonsTurn w m b c
stepped_daemons w e fx m b c (Elsewhere is) = Same_daemons (ap daemons_on is)
stepped_daemons w e fx m b c (Alone none same is) = Same_daemons (ap daemons_on is)
stepped_daemons w e fx m b c (Took i has same is) =
    let now : Stamp = stamp_now (next_step (first_change e w)) b in
    entered_by w m b c (entry_of i fx b) now b.daemon refl (ap (λ (x : Machine). x.daemon) is ∙ step_daemon now i fx b) (ap (λ (x : Machine). x.ended) is ∙ step_ended now i fx b) refl

-- ---- what is said of each daemon

-- Of each on the machine.
abbrev pub OnDaemons : (Daemon → Type 0) → Machine → Type 0
OnDaemons Q a = Every Q (daemons_on a)

pub daemons_keep : (w : World) (m : ℕ) (Q : Daemon → Type 0) (a b : Machine) → ((d : Daemon) → IsNewest w m a d → Q d)
    → ((d : Daemon) (e : Entry) (s : Stamp) → reading_of s.clock ≡ e.reading → Q d → Q (with_entry e s d)) → DaemonsTurn w m a b → OnDaemons Q a → OnDaemons Q b
daemons_keep w m Q a b new more (Same_daemons is) h = subst (Every Q) (sym is) h
daemons_keep w m Q a b new more (One_begins d n is) h = subst (Every Q) (sym is) (new d n, h)
daemons_keep w m Q a b new more (One_enters d ds e s reading was is) h =
    let k : Every Q (d ∷ ds) = subst (Every Q) was h in
    subst (Every Q) (sym is) (more d e s reading k.0, k.1)

pub every_each : {A : Type 0} (P Q : A → Type 0) (xs : List A) → ((x : A) → P x → Q x) → Every P xs → Every Q xs
every_each P Q [] each h = tt
every_each P Q (x ∷ xs) each h = (each x h.0, every_each P Q xs each h.1)

pub every_has : {A : Type 0} (Q : A → Type 0) (ds : List A) (d : A) → Every Q ds → Contains ds d → Q d
every_has Q [] d h there = absurd (contains_none d there)
every_has Q (x ∷ ds) d h there =
    elim (contains_cases x ds d there) as (λ z. Q d) [
      | inl e ↦ subst Q e h.0
      | inr more ↦ every_has Q ds d h.1 more
    ]

-- ---- at first

-- The daemon that a machine has at first, for a session line.
abbrev pub daemon_of_line : Program → Layout → Header → ℕ → SessionLine → Daemon
daemon_of_line p g h m s = new_daemon 0 (setting_of p g h m s.name first_numbers (filter_map (given_of h m) h.sessions)) (first_stamp h m)

first_by : (Q : Daemon → Type 0) (f : SessionLine → Daemon) (o : Option SessionLine) → ((s : SessionLine) → o ≡ Some s → Q (f s))
    → Every Q (elim (option_map f o) as (λ x. List Daemon) [ None ↦ [] | Some d ↦ d ∷ [] ])
first_by Q f None each = tt
first_by Q f (Some s) each = (each s refl, tt)

pub first_daemons : (p : Program) (g : Layout) (h : Header) (m : ℕ) (Q : Daemon → Type 0)
    → ((s : SessionLine) → find (λ x. x.machine == m) h.sessions ≡ Some s → Q (daemon_of_line p g h m s)) → OnDaemons Q (machine_of_header p g h m)
unfolding machine_of_header
first_daemons p g h m Q each = first_by Q (daemon_of_line p g h m) (find (λ s. s.machine == m) h.sessions) each
