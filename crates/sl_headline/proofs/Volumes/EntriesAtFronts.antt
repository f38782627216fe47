-- What is said of each entry of each daemon's trace is said of it at each front of the run.
use Rattle.sl_run.specs.Caused.{AnswersWell, IsCaused}
use Rattle.sl_words.proofs.Lists.{got_inside}
use Rattle.sl_run.specs.Runs.{EachDaemon, Happening, IsRun}
use Rattle.sl_run.specs.Safety.{LawfulRun, world_at}
use Rattle.sl_run.specs.Worlds.{Daemon, Machine, Program, World, daemons_on, machine_at, world_with}
use Rattle.sl_run.specs.declared.header.Header.{Header}
use Rattle.sl_run_law.proofs.Course.Daemons.{daemons_keep, every_has, first_daemons, stepped_daemons, turned_daemons}
use Rattle.sl_run_law.proofs.Course.MachinesKeep.{Goes_on, machines_keep}
use Rattle.sl_run_law.proofs.Front.RunsFromFronts.{daemon_later, fronts_are_lawful, number_place}
use Rattle.sl_run_law.proofs.Front.JoinedLists.{contains_flat, in_flat, placed_at}
use Rattle.sl_run_law.proofs.WorldsGoOn.{run_goes}
use Rattle.sl_run_law.proofs.MachineWalk.{index}
use Rattle.sl_run_law.specs.DaemonsGoOn.{DaemonGoes}
use Rattle.sl_run_law.specs.FatesStay.{Every}
use Rattle.sl_trace.proofs.TraceFacts.{each_entry-front}
use Rattle.sl_trace.specs.CommandForms.{command_in}
use Rattle.sl_trace.specs.Traces.{Setting, Trace}
use Rattle.sl_headline.specs.Volumes.FittingRuns.{AnsweredRun}
use Rattle.std.proofs.Common.{ap, refl, subst, ◌∙◌}
use Rattle.std.proofs.lemmas.List.{append_assoc}
use Rattle.std.specs.Prelude.{Contains, List, Some, suc, ℕ, ◌++◌, ◌-◌, ◌≡◌}

-- What a trace keeps of what is said of a longer one.
abbrev pub KeptByFronts : (Setting → Trace → Type 0) → Type 0
KeptByFronts P = (st : Setting) (newer es : Trace) → P st (newer ++ es) → P st es

front_before : (P : Setting → Trace → Type 0) → KeptByFronts P → (d e : Daemon) → DaemonGoes d e → P e.setting e.trace → P d.setting d.trace
front_before P keeps d e g law = subst (λ st. P st d.trace) g.setting (keeps e.setting g.trace.newer d.trace (subst (λ t. P e.setting t) g.trace.same law))

pub each_front : (P : Setting → Trace → Type 0) → KeptByFronts P → (p : Program) (h : Header) (now rest : List Happening) → IsRun (world_with p h) (now ++ rest)
    → EachDaemon P (world_at p h (now ++ rest)) → EachDaemon P (world_at p h now)
each_front P keeps p h now rest run each d has =
    let w : World = world_at p h now in
    let on = contains_flat daemons_on w.machines d has in
    let place = placed_at w.machines on.0 on.1 in
    let later = daemon_later p h now rest run (suc place.0) on.0 d (number_place w place.0 on.0 place.1) on.2 in
    let there = index (world_at p h (now ++ rest)) (suc place.0) later.machine later.at in
    front_before P keeps d later.daemon later.goes
    (each later.daemon (in_flat daemons_on (world_at p h (now ++ rest)).machines later.machine later.daemon
    (got_inside (world_at p h (now ++ rest)).machines (suc place.0 - 1) later.machine there.1) later.has))

caused_front : KeptByFronts IsCaused
caused_front st newer es h = each_entry-front (AnswersWell st) newer es h

-- Each front of such a run is one.
pub answered_front : (p : Program) (h : Header) (now rest : List Happening) → AnsweredRun p h (now ++ rest) → AnsweredRun p h now
answered_front p h now rest r =
    record {
      run = fronts_are_lawful p h now rest r.run;
      caused = each_front IsCaused caused_front p h now rest r.run.is_run r.caused;
      reads = r.reads;
      fit = λ front more is. r.fit front (more ++ rest) (ap (λ xs. xs ++ rest) is ∙ append_assoc front more rest);
    }

-- What is said of the daemons of a world is said of each of a machine.
pub on_machine : (P : Setting → Trace → Type 0) (w : World) (m : ℕ) (a : Machine) (d : Daemon) → EachDaemon P w → machine_at w m ≡ Some a → Contains (daemons_on a) d
    → P d.setting d.trace
on_machine P w m a d each at has = each d (in_flat daemons_on w.machines a d (got_inside w.machines (m - 1) a (index w m a at).1) has)

-- ---- what daemons read

-- Each daemon reads what the program reads.
abbrev Reads : Program → Header → Daemon → Type 0
Reads p h d = d.setting.read ≡ command_in (p.commands h)

reads_kept : (p : Program) (h : Header) (now : List Happening) (x : Happening) (m : ℕ) (a c : Machine) → Goes_on p h now x m a c → Every (Reads p h) (daemons_on a)
    → Every (Reads p h) (daemons_on c)
reads_kept p h now x m a c g k =
    let w : World = world_at p h now in
    let goes = run_goes (world_with p h) now in
    let same : command_in (w.program.commands w.header) ≡ command_in (p.commands h) =
    ap (λ (q : Program). command_in (q.commands w.header)) goes.program ∙ ap (λ (y : Header). command_in (p.commands y)) goes.header in
    let b : Machine = g.becomes.middle in
    let before : Every (Reads p h) (daemons_on b) =
    daemons_keep w m (Reads p h) a b (λ d new. ap (λ (y : Daemon). y.setting.read) new.is ∙ same) (λ d e s reading is. is)
    (turned_daemons w x.0 m a b g.settled g.becomes.turned) k in
    daemons_keep w m (Reads p h) b c (λ d new. ap (λ (y : Daemon). y.setting.read) new.is ∙ same) (λ d e s reading is. is)
    (stepped_daemons w x.0 g.effects m b c g.becomes.stepped) before

pub daemon_reads : (p : Program) (h : Header) (xs : List Happening) → LawfulRun p h xs → (m : ℕ) (a : Machine) (d : Daemon) → machine_at (world_at p h xs) m ≡ Some a
    → Contains (daemons_on a) d → d.setting.read ≡ command_in (p.commands h)
daemon_reads p h xs run m a d at has =
    every_has (Reads p h) (daemons_on a) d
    (machines_keep p h (λ w n b. Every (Reads p h) (daemons_on b)) (λ n. first_daemons p _ h n (Reads p h) (λ s is. refl)) (reads_kept p h) xs run m a at) has
