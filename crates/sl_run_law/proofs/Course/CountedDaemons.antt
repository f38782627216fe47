-- Daemons are numbered in their list, and each call has the number of one of them.
use Rattle.sl_area.specs.AreaSizes.{layout_with}
use Rattle.sl_run_law.proofs.Course.Daemons.{DaemonsTurn, One_begins, One_enters, Same_daemons, daemons_are, every_has, stepped_daemons, turned_daemons}
use Rattle.sl_run_law.proofs.Course.CallsAreDistinct.{made_calls, step_calls}
use Rattle.sl_run_law.proofs.Course.MachinesKeep.{Goes_on, OfMachines, machines_keep}
use Rattle.sl_run_law.proofs.Course.DaemonRuns.{runs_then}
use Rattle.sl_run_law.proofs.Course.MachineTurns.{Alone, Began, Called, Came_up, Clocked, Crashed, Elsewhere, IsQuiet, KeepsAsking, Stays, Stepped, Tested, Took, Turned, Went_down, own_quiet}
use Rattle.sl_run_law.specs.Course.Mirrors.{AreNumbered}
use Rattle.sl_run_law.specs.Course.CourseLaws.{CoursesHaveDaemons}
use Rattle.sl_words.proofs.Lists.{contains_first, contains_more}
use Rattle.sl_run.specs.EventChanges.{close_answered, daemon_number, first_change, new_course, next_step, with_entry}
use Rattle.sl_run.specs.Runs.{Happening}
use Rattle.sl_run.specs.Safety.{LawfulRun, world_at}
use Rattle.sl_run.specs.Worlds.{Course, Daemon, Machine, Program, Stamp, World, daemons_on, machine_of_header, stamp_now}
use Rattle.sl_run.specs.declared.event.Event.{Event}
use Rattle.sl_run.specs.declared.header.Header.{Header}
use Rattle.sl_run.specs.declared.header.SessionLine.{SessionLine}
use Rattle.sl_run_law.proofs.CourseLists.{changed_if}
use Rattle.sl_run_law.proofs.FatesStay.{every_map}
use Rattle.sl_run_law.proofs.CoursesGoOn.{told}
use Rattle.sl_run_law.specs.FatesStay.{Every}
use Rattle.sl_trace.specs.Traces.{is_ok_answer}
use Rattle.sl_trace.specs.declared.effects.Call.{Call}
use Rattle.sl_trace.specs.declared.input.Input.TheVariants.{Answer as Told, Exit, Line, Number, Spawned, Wake}
use Rattle.sl_trace.specs.declared.input.Input.{Input}
use Rattle.sl_words.proofs.OrderLaws.{below_or_last}
use Rattle.std.proofs.Common.{ap, arith, inl, inr, refl, subst, sym, ◌∙◌}
use Rattle.std.specs.Option.{option_map_or}
use Rattle.std.specs.Prelude.{Bool, Contains, List, None, Option, Some, false, find, length, map, option_map, suc, true, [], ℕ, ◌<◌, ◌==◌, ◌∷◌, ◌≡◌}

-- ---- what is said of each call

changed_holds : (Q : Course → Type 0) (f : Course → Course) (t : Bool) (c : Course) → (Q c → Q (f c)) → Q c → Q (changed_if t f c)
changed_holds Q f true c keep h = keep h
changed_holds Q f false c keep h = h

pub every_changed : (Q : Course → Type 0) (p : Course → Bool) (f : Course → Course) (cs : List Course) → ((c : Course) → Q c → Q (f c)) → Every Q cs
    → Every Q (map (λ c. changed_if (p c) f c) cs)
every_changed Q p f [] keep h = tt
every_changed Q p f (c ∷ cs) keep h = (changed_holds Q f (p c) c (keep c) h.0, every_changed Q p f cs keep h.1)

-- What is said of a course by what was asked.
abbrev pub IsOfAsking : (Course → Type 0) → Type 0
IsOfAsking Q = (f : Course → Course) → KeepsAsking f → (c : Course) → Q c → Q (f c)

pub turned_each : (w : World) (e : Event) (m : ℕ) (a b : Machine) (Q : Course → Type 0) → IsOfAsking Q → Turned w e m a b → Every Q a.calls → Every Q b.calls
turned_each w e m a b Q keep (Stays is) h = subst (λ (x : Machine). Every Q x.calls) (sym is) h
turned_each w e m a b Q keep (Clocked k is) h = subst (λ (x : Machine). Every Q x.calls) (sym is) h
turned_each w e m a b Q keep (Called k f g flight keeps is) h =
    subst (λ (x : Machine). Every Q x.calls) (sym is) (every_changed Q (λ c. c.call.number == k) f a.calls (keep f keeps) h)
turned_each w e m a b Q keep (Tested t is) h = subst (λ (x : Machine). Every Q x.calls) (sym is) h
turned_each w e m a b Q keep (Crashed event is) h = subst (λ (x : Machine). Every Q x.calls) (sym is) h
turned_each w e m a b Q keep (Went_down event up is) h = subst (λ (x : Machine). Every Q x.calls) (sym is) h
turned_each w e m a b Q keep (Came_up event down is) h = subst (λ (x : Machine). Every Q x.calls) (sym is) h
turned_each w e m a b Q keep (Began name event up used fresh is) h = subst (λ (x : Machine). Every Q x.calls) (sym is) h

closed_each : (Q : Course → Type 0) (now : Stamp) (i : Input) (a : Machine) → ((ok : Bool) (c : Course) → Q c → Q (told now ok c)) → Every Q a.calls
    → Every Q (close_answered now i a).calls
closed_each Q now (Told k answer) a keep h = every_changed Q (λ c. c.call.number == k) (told now (is_ok_answer answer)) a.calls (keep (is_ok_answer answer)) h
closed_each Q now (Line text) a keep h = h
closed_each Q now (Number text) a keep h = h
closed_each Q now (Exit p) a keep h = h
closed_each Q now (Spawned p ok) a keep h = h
closed_each Q now Wake a keep h = h

made_each : (Q : Course → Type 0) (now : Stamp) (d : ℕ) (cs : List Course) (calls : List Call) → ((c : Call) → Q (new_course now d c)) → Every Q cs
    → Every Q (made_calls now d cs calls)
made_each Q now d cs [] new h = h
made_each Q now d cs (c ∷ calls) new h = made_each Q now d (new_course now d c ∷ cs) calls new (new c, h)

-- ---- daemons in their list

renumbered : (d e : Daemon) (ds : List Daemon) → e.number ≡ d.number → AreNumbered (d ∷ ds) → AreNumbered (e ∷ ds)
renumbered d e ds is h = (is ∙ h.0, h.1)

pub daemons_numbered : (w : World) (m : ℕ) (a b : Machine) → DaemonsTurn w m a b → AreNumbered (daemons_on a) → AreNumbered (daemons_on b)
daemons_numbered w m a b (Same_daemons is) h = subst AreNumbered (sym is) h
daemons_numbered w m a b (One_begins d n is) h = subst AreNumbered (sym is) (ap (λ (x : Daemon). x.number) n.is, h)
daemons_numbered w m a b (One_enters d ds e s reading was is) h = subst AreNumbered (sym is) (renumbered d (with_entry e s d) ds refl (subst AreNumbered was h))

-- How many daemons there are.
abbrev pub count_of : Machine → ℕ
count_of a = length (daemons_on a)

less_suc : (x n k : ℕ) → k ≡ suc n → x < n → x < k
less_suc x n k h g = omega (arith, h, g)

below_further : (w : World) (m : ℕ) (a b : Machine) → DaemonsTurn w m a b → (x : ℕ) → x < count_of a → x < count_of b
below_further w m a b (Same_daemons is) x h = subst (λ ds. x < length ds) (sym is) h
below_further w m a b (One_begins d n is) x h = less_suc x (count_of a) (count_of b) (ap length is) h
below_further w m a b (One_enters d ds e s reading was is) x h = subst (λ xs. x < length xs) (sym is) (subst (λ xs. x < length xs) was h)

-- The daemon with a number.
pub numbered_one : (ds : List Daemon) (n : ℕ) → AreNumbered ds → n < length ds → (d : Daemon) × Contains ds d × (d.number ≡ n)
numbered_one [] n h below = absurd (omega (arith, below))
numbered_one (d ∷ ds) n h below =
    elim (below_or_last n (length ds) (omega (arith, below))) as (λ z. (e : Daemon) × Contains (d ∷ ds) e × (e.number ≡ n)) [
      | inl less ↦ let r = numbered_one ds n h.1 less in (r.0, contains_more d ds r.0 r.1, r.2)
      | inr last ↦ (d, contains_first d ds, h.0 ∙ sym last)
    ]

-- ---- both

-- What is kept.
pub record IsCountedOn (a : Machine) : Type 0 where
  pub numbered : AreNumbered (daemons_on a)
  pub daemons : Every (λ c. c.daemon < count_of a) a.calls

turned_counted : (w : World) (e : Event) (m : ℕ) (a b : Machine) → DaemonsTurn w m a b → Turned w e m a b → IsCountedOn a → IsCountedOn b
turned_counted w e m a b turn t h =
    record {
      numbered = daemons_numbered w m a b turn h.numbered;
      daemons = every_map (λ c. c.daemon < count_of a) (λ c. c.daemon < count_of b) b.calls (λ c. below_further w m a b turn c.daemon)
          (turned_each w e m a b (λ c. c.daemon < count_of a) (λ f k c less. subst (λ n. n < count_of a) (sym (k.daemon c)) less) t h.daemons);
    }

-- The running daemon has the greatest number.
running_number : (a : Machine) (d : Daemon) → a.daemon ≡ Some d → AreNumbered (daemons_on a) → d.number ≡ length a.ended
running_number a d runs h = (subst AreNumbered (daemons_are a d runs) h).0

running_below : (a : Machine) (d : Daemon) → a.daemon ≡ Some d → AreNumbered (daemons_on a) → d.number < count_of a
running_below a d runs h =
    let count : count_of a ≡ suc (length a.ended) = ap length (daemons_are a d runs) in
    let number : d.number ≡ length a.ended = running_number a d runs h in
    omega (arith, count, number)

pub daemon_number_is : (a : Machine) (d : Daemon) → a.daemon ≡ Some d → daemon_number a ≡ d.number
daemon_number_is a d runs = ap (λ o. option_map_or (λ (x : Daemon). x.number) o 0) runs

stepped_counted : (p : Program) (h : Header) (now : List Happening) (x : Happening) (m : ℕ) (a c : Machine) (g : Goes_on p h now x m a c)
    (b : Machine) → Turned (world_at p h now) x.0 m a b → Stepped (world_at p h now) x.0 g.effects m b c → IsCountedOn b → IsCountedOn c
stepped_counted p h now x m a c g b t (Elsewhere is) k = subst IsCountedOn (sym is) k
stepped_counted p h now x m a c g b t (Alone none same is) k =
    let w : World = world_at p h now in
    let quiet : g.effects.calls ≡ [] = (subst IsQuiet (sym (g.own none)) (own_quiet w x.0)).calls in
    let stamp : Stamp = stamp_now (next_step (first_change x.0 w)) b in
    subst IsCountedOn (sym is)
    (record {
      numbered = k.numbered;
      daemons = subst (λ calls. Every (λ (y : Course). y.daemon < count_of b) (made_calls stamp (daemon_number b) b.calls calls)) (sym quiet) k.daemons;
    })
stepped_counted p h now x m a c g b t (Took i has same is) k =
    let w : World = world_at p h now in
    let stamp : Stamp = stamp_now (next_step (first_change x.0 w)) b in
    let d = runs_then w x.0 m a b i g.may g.at same has t in
    let turn : DaemonsTurn w m b c = stepped_daemons w x.0 g.effects m b c (Took i has same is) in
    let less : daemon_number b < count_of b = subst (λ n. n < count_of b) (sym (daemon_number_is b d.0 d.1)) (running_below b d.0 d.1 k.numbered) in
    record {
      numbered = daemons_numbered w m b c turn k.numbered;
      daemons = every_map (λ y. y.daemon < count_of b) (λ y. y.daemon < count_of c) c.calls (λ y. below_further w m b c turn y.daemon)
          (subst (Every (λ (y : Course). y.daemon < count_of b)) (sym (ap (λ (y : Machine). y.calls) is ∙ step_calls stamp i g.effects b))
          (made_each (λ y. y.daemon < count_of b) stamp (daemon_number b) (close_answered stamp i b).calls g.effects.calls (λ y. less)
          (closed_each (λ y. y.daemon < count_of b) stamp i b (λ ok y l. l) k.daemons)));
    }

keeps : (p : Program) (h : Header) (now : List Happening) (x : Happening) (m : ℕ) (a c : Machine) → Goes_on p h now x m a c → IsCountedOn a → IsCountedOn c
keeps p h now x m a c g was =
    let w : World = world_at p h now in
    let b : Machine = g.becomes.middle in
    stepped_counted p h now x m a c g b g.becomes.turned g.becomes.stepped
    (turned_counted w x.0 m a b (turned_daemons w x.0 m a b g.settled g.becomes.turned) g.becomes.turned was)

first_numbered : (f : SessionLine → Daemon) (o : Option SessionLine) → ((s : SessionLine) → (f s).number ≡ 0)
    → AreNumbered (elim (option_map f o) as (λ x. List Daemon) [ None ↦ [] | Some d ↦ d ∷ [] ])
first_numbered f None each = tt
first_numbered f (Some s) each = (each s, tt)

first : (p : Program) (h : Header) (m : ℕ) → IsCountedOn (machine_of_header p (layout_with p.digest h.geometry) h m)
unfolding machine_of_header
first p h m = record { numbered = first_numbered _ (find (λ s. s.machine == m) h.sessions) (λ s. refl); daemons = tt }

pub counted_after : (p : Program) (h : Header) (xs : List Happening) → LawfulRun p h xs → OfMachines (λ w m. IsCountedOn) (world_at p h xs)
counted_after p h xs run = machines_keep p h (λ w m. IsCountedOn) (first p h) (keeps p h) xs run

pub courses_have_daemons : CoursesHaveDaemons
courses_have_daemons p h xs run m a c at there =
    let k = counted_after p h xs run m a at in
    numbered_one (daemons_on a) c.daemon k.numbered (every_has (λ y. y.daemon < count_of a) a.calls c k.daemons there)
