-- A quiet acquire is granted: its start begins the course, quiet events lead along it to the grant, and the grant stays.
use Rattle.sl_headline.proofs.Quiet.Events.CourseIsGranted.{course_is_quiet}
use Rattle.sl_headline.proofs.Quiet.Events.GrantsStay.{grants_stay}
use Rattle.sl_headline.proofs.Quiet.Events.LeadsToGrants.{courses_lead_to_grants}
use Rattle.sl_headline.proofs.Quiet.Start.StartsBeginCourses.{starts_begin_courses}
use Rattle.sl_headline.proofs.Quiet.Start.StartIsLow.{start_is_low}
use Rattle.sl_headline.proofs.Quiet.Start.StartsOfLines.{starts_are_of_lines}
use Rattle.sl_headline.specs.Quiet.Events.CarriedStages.{Asked, OnCourse, Reads_area}
use Rattle.sl_headline.specs.Quiet.Events.AnswersShow.{IsGrantedThere}
use Rattle.sl_headline.specs.Quiet.Events.AreaGoesOn.{IsLineOf, IsWellMade}
use Rattle.sl_headline.specs.Quiet.Events.LeadsToGrants.{AreWellMade, Comes, Is_on_course, Was_granted}
use Rattle.sl_headline.specs.Quiet.Start.QuietIsGranted.{QuietAcquiresAreGranted}
use Rattle.sl_headline.specs.Quiet.Start.CourseStarts.{IsAskedAt, IsLow}
use Rattle.sl_run.specs.EventChanges.{happens}
use Rattle.sl_run.specs.Quiet.{IsGrantedQuietly, QuietStep, StaysQuiet}
use Rattle.sl_run.specs.Runs.{EachDaemon, Happening}
use Rattle.sl_run.specs.Safety.{LawfulRun, world_at}
use Rattle.sl_run.specs.Worlds.{Daemon, Machine, Program, World, machine_at, world_with}
use Rattle.sl_run.specs.declared.header.Header.{Header}
use Rattle.sl_run.specs.declared.header.ResourceLine.{ResourceLine}
use Rattle.sl_run_law.proofs.Front.RunsFromFronts.{fronts_are_lawful, run_after}
use Rattle.sl_sector.specs.declared.sector.Leader.{Leader}
use Rattle.sl_trace.specs.declared.session.Session.{Session}
use Rattle.sl_trace.specs.Traces.{next_job}
use Rattle.sl_trace.specs.declared.command.ResourceArg.{ResourceArg}
use Rattle.sl_words.proofs.CaseLaws.{one_value}
use Rattle.std.proofs.Common.{ap, refl, subst, sym, ◌∙◌}
use Rattle.std.proofs.lemmas.List.{append-nil, append_assoc}
use Rattle.std.specs.Prelude.{Bool, List, Some, [], ℕ, ◌++◌, ◌+◌, ◌∷◌, ◌≡◌}

-- Quiet for an acquire, from this world on.
abbrev QuietFor : World → List Happening → Asked → Type 0
QuietFor w xs q = StaysQuiet w xs q.machine q.job q.resource q.shared q.process q.session.number

-- What stays quiet over two lists stays so over the second, after the first.
quiet_after : (p : Program) (h : Header) (now xs ys : List Happening) (q : Asked) → QuietFor (world_at p h now) (xs ++ ys) q → QuietFor (world_at p h (now ++ xs)) ys q
quiet_after p h now [] ys q quiet = subst (λ zs. QuietFor (world_at p h zs) ys q) (sym (append-nil now)) quiet
quiet_after p h now (x ∷ xs) ys q quiet =
    subst (λ zs. QuietFor (world_at p h zs) ys q) (append_assoc now (x ∷ []) xs)
    (quiet_after p h (now ++ x ∷ []) xs ys q (subst (λ v. QuietFor v (xs ++ ys) q) (sym (run_after (world_with p h) now (x ∷ []))) quiet.1))

-- A grant stays over quiet events.
granted_on : (p : Program) (h : Header) (now xs : List Happening) (q : Asked) → LawfulRun p h (now ++ xs) → AreWellMade p h (now ++ xs) → QuietFor (world_at p h now) xs q → IsGrantedThere (world_at p h now) q
    → IsGrantedThere (world_at p h (now ++ xs)) q
granted_on p h now [] q run well quiet g = subst (λ zs. IsGrantedThere (world_at p h zs) q) (sym (append-nil now)) g
granted_on p h now (x ∷ xs) q run well quiet g =
    subst (λ zs. IsGrantedThere (world_at p h zs) q) (append_assoc now (x ∷ []) xs)
    (granted_on p h (now ++ x ∷ []) xs q run_on well_on (subst (λ v. QuietFor v xs q) (sym (run_after (world_with p h) now (x ∷ []))) quiet.1)
    (grants_stay p h now x (fronts_are_lawful p h (now ++ x ∷ []) xs run_on) (well_on (now ++ x ∷ []) xs refl) q g quiet.0.stays.1 quiet.0.stays.2)) where
      run_on : LawfulRun p h ((now ++ x ∷ []) ++ xs)
      run_on = subst (λ ys. LawfulRun p h ys) (sym (append_assoc now (x ∷ []) xs)) run

      well_on : AreWellMade p h ((now ++ x ∷ []) ++ xs)
      well_on = subst (λ ys. AreWellMade p h ys) (sym (append_assoc now (x ∷ []) xs)) well

-- A front's daemons are well made where all are.
well_front : (p : Program) (h : Header) (xs front rest : List Happening) → xs ≡ front ++ rest → AreWellMade p h xs → AreWellMade p h front
well_front p h xs front rest is well before after same = well before (after ++ rest) (is ∙ (ap (λ ys. ys ++ rest) same ∙ append_assoc before after rest))

abbrev AskedAs : Asked → ℕ → ℕ → ResourceArg → Bool → Bool → ℕ → ℕ → ℕ → Type 0
AskedAs q m job r shared persistent process number lver =
    (q.machine ≡ m) × (q.job ≡ job) × (q.resource ≡ r) × (q.shared ≡ shared) × (q.persistent ≡ persistent) × (q.process ≡ process) × (q.session.number ≡ number) × (q.leader.lver ≡ lver)

quiet_as : (w : World) (xs : List Happening) (q : Asked) (m job : ℕ) (r : ResourceArg) (shared persistent : Bool) (process number lver : ℕ) → AskedAs q m job r shared persistent process number lver
    → StaysQuiet w xs m job r shared process number → QuietFor w xs q
quiet_as w xs q m job r shared persistent process number lver (em, ej, er, es, ep, eq, en, el) quiet =
    subst (λ k. StaysQuiet w xs k q.job q.resource q.shared q.process q.session.number) (sym em)
    (subst (λ k. StaysQuiet w xs m k q.resource q.shared q.process q.session.number) (sym ej)
    (subst (λ k. StaysQuiet w xs m job k q.shared q.process q.session.number) (sym er)
    (subst (λ k. StaysQuiet w xs m job r k q.process q.session.number) (sym es)
    (subst (λ k. StaysQuiet w xs m job r shared k q.session.number) (sym eq)
    (subst (λ k. StaysQuiet w xs m job r shared process k) (sym en) quiet)))))

granted_as : (d : Daemon) (q : Asked) (m job : ℕ) (r : ResourceArg) (shared persistent : Bool) (process number lver : ℕ) → AskedAs q m job r shared persistent process number lver
    → IsGrantedQuietly d q.job (q.leader.lver + 1) q.resource q.shared q.persistent q.process → IsGrantedQuietly d job (lver + 1) r shared persistent process
granted_as d q m job r shared persistent process number lver (em, ej, er, es, ep, eq, en, el) granted =
    subst (λ k. IsGrantedQuietly d k (lver + 1) r shared persistent process) ej
    (subst (λ k. IsGrantedQuietly d q.job (k + 1) r shared persistent process) el
    (subst (λ k. IsGrantedQuietly d q.job (q.leader.lver + 1) k shared persistent process) er
    (subst (λ k. IsGrantedQuietly d q.job (q.leader.lver + 1) q.resource k persistent process) es
    (subst (λ k. IsGrantedQuietly d q.job (q.leader.lver + 1) q.resource q.shared k process) ep
    (subst (λ k. IsGrantedQuietly d q.job (q.leader.lver + 1) q.resource q.shared q.persistent k) eq granted)))))

pub quiet_acquires_are_granted : QuietAcquiresAreGranted
quiet_acquires_are_granted p h xs run well before during rest m n text r shared x start is same given quiet a d at runs = granted_as d q m job r shared start.persistent n number lver asked result where
  w : World
  w = world_at p h before

  job : ℕ
  job = next_job (start.daemon).setting (start.daemon).trace

  number : ℕ
  number = (start.session).number

  lver : ℕ
  lver = (start.leader).lver

  first : List Happening
  first = before ++ x ∷ []

  v : World
  v = world_at p h first

  two : first ++ during ≡ before ++ x ∷ during
  two = append_assoc before (x ∷ []) during

  all : xs ≡ (first ++ during) ++ rest
  all = is ∙ ap (λ ys. ys ++ rest) (sym two)

  run_all : LawfulRun p h (first ++ during)
  run_all = fronts_are_lawful p h (first ++ during) rest (subst (λ ys. LawfulRun p h ys) all run)

  run_first : LawfulRun p h first
  run_first = fronts_are_lawful p h first during run_all

  run_before : LawfulRun p h before
  run_before = fronts_are_lawful p h before (x ∷ []) run_first

  well_all : AreWellMade p h (first ++ during)
  well_all = well_front p h xs (first ++ during) rest all well

  well_first : EachDaemon IsWellMade v
  well_first = well_all first during refl

  well_before : EachDaemon IsWellMade w
  well_before = well_all before (x ∷ during) two

  line : (line : ResourceLine) × IsLineOf h r line
  line = starts_are_of_lines p h before run_before well_before m n text r shared start

  low : IsLow w m text r shared n start
  low = start_is_low p h before run_before well_before m n text r shared line.0 line.1 start

  after : v ≡ happens w x.0 x.1
  after = run_after (world_with p h) before (x ∷ [])

  begins : (q : Asked) × IsAskedAt w m text r shared n start q × OnCourse v q Reads_area
  begins =
      starts_begin_courses p h before x run_first well_first m n text r shared line.0 line.1 start low same given
      (subst (λ u. QuietStep w x u m job r shared n number) (sym after) quiet.0)

  q : Asked
  q = begins.0

  its : IsAskedAt w m text r shared n start q
  its = begins.1

  asked : AskedAs q m job r shared start.persistent n number lver
  asked = (its.machine, its.job, its.resource, its.mode.0, its.mode.1, its.process, ap (λ (s : Session). s.number) its.session, ap (λ (l : Leader). l.lver) its.leader)

  quiet_on : QuietFor v during q
  quiet_on = quiet_as v during q m job r shared start.persistent n number lver asked (subst (λ u. StaysQuiet u during m job r shared n number) (sym after) quiet.1)

  comes : Comes p h first during q
  comes = courses_lead_to_grants p h first during run_all well_all q Reads_area line.0 (subst (λ k. IsLineOf h k line.0) (sym its.resource) line.1) begins.2 quiet_on

  there : machine_at (world_at p h (first ++ during)) q.machine ≡ Some a
  there = subst (λ ys. machine_at (world_at p h ys) q.machine ≡ Some a) (sym two) (subst (λ k. machine_at (world_at p h (before ++ x ∷ during)) k ≡ Some a) (sym its.machine) at)

  one_daemon : (b : Machine) (c : Daemon) → machine_at (world_at p h (first ++ during)) q.machine ≡ Some b → b.daemon ≡ Some c → c ≡ d
  one_daemon b c here has =
      one_value c d a.daemon (ap (λ (y : Machine). y.daemon) (one_value a b (machine_at (world_at p h (first ++ during)) q.machine) there here) ∙ has) runs

  result : IsGrantedQuietly d q.job (q.leader.lver + 1) q.resource q.shared q.persistent q.process
  result = by comes where
    by : Comes p h first during q → IsGrantedQuietly d q.job (q.leader.lver + 1) q.resource q.shared q.persistent q.process
    by (Is_on_course stage c) =
        subst (λ k. IsGrantedQuietly k q.job (q.leader.lver + 1) q.resource q.shared q.persistent q.process) (one_daemon c.machine c.daemon c.at.0 c.at.1)
        (course_is_quiet.waits (world_at p h (first ++ during)) q stage c)
    by (Was_granted front later split g) =
        let whole : (first ++ front) ++ later ≡ first ++ during = append_assoc first front later ∙ ap (λ ys. first ++ ys) (sym split) in
        let last : IsGrantedThere (world_at p h (first ++ during)) q =
        subst (λ ys. IsGrantedThere (world_at p h ys) q) whole
        (granted_on p h (first ++ front) later q (subst (λ ys. LawfulRun p h ys) (sym whole) run_all) (subst (λ ys. AreWellMade p h ys) (sym whole) well_all)
        (quiet_after p h first front later q (subst (λ ys. QuietFor v ys q) split quiet_on)) g) in
        subst (λ k. IsGrantedQuietly k q.job (q.leader.lver + 1) q.resource q.shared q.persistent q.process) (one_daemon last.machine last.daemon last.at.0 last.at.1)
        (course_is_quiet.granted (world_at p h (first ++ during)) q last)
