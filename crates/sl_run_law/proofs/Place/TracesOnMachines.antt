-- What stands in a trace stands on its machine: a call is a call of a session, a landing is read back as what its write spelled, and a
-- read that was answered shows landings.
use Rattle.sl_area.specs.AreaSizes.{Layout, layout_with, record_in}
use Rattle.sl_area.specs.AreaLayout.{sector_of}
use Rattle.sl_run_law.specs.Course.CourseLaws.{CoursesAreCalls, CoursesHaveDaemons, DaemonsAreOfWorld}
use Rattle.sl_run_law.specs.Course.CallStamps.{AnswersAgree, IsAnsweredAs, IsCourseOf, courses_of, stamp_in}
use Rattle.sl_run_law.proofs.Front.JoinedLists.{contains_append, in_flat}
use Rattle.sl_run_law.specs.Landing.Landings.{IsWrittenBy, LandingsAreWritten, LeftBy}
use Rattle.sl_run.proofs.LawFacts.{orderly-front}
use Rattle.sl_run.specs.Lawful.{Orderly}
use Rattle.sl_run_law.proofs.Place.FoundInLists.{finds, numbered_inside, partner, partner_of, place_is, same_read}
use Rattle.sl_run_law.proofs.Place.SessionNumbers.{session_number}
use Rattle.sl_words.proofs.Lists.{contains_cases, contains_none, find_inside, got_inside, kept, kept_inside, there_is}
use Rattle.sl_words.proofs.Numbers.{no_times, one_times}
use Rattle.sl_words.proofs.Options.{some_of}
use Rattle.sl_run.specs.Refusals.{sectors_of}
use Rattle.sl_run.specs.Runs.{Happening}
use Rattle.sl_run.specs.Safety.{Found, LawfulRun, SessionId, session_of_world, world_at}
use Rattle.sl_run.specs.Worlds.{Course, Daemon, Landing, Machine, Program, Sampling, Stamp, World, daemon_numbered, daemons_on, first_landing, history_of, landed_at, machine_at, world_with}
use Rattle.sl_run.specs.declared.header.Header.{Header}
use Rattle.sl_run_law.proofs.WorldsGoOn.{run_goes}
use Rattle.sl_run_law.proofs.MachineWalk.{index}
use Rattle.sl_run_law.specs.Sample.Samples.{DoneReadsAreWhole, IsSampleOf, SampledAreSectors, SamplesAreLandings, sector_place}
use Rattle.sl_sector.proofs.PublicLaws.{spelled_is_read}
use Rattle.sl_sector.specs.Records.{IsRecord}
use Rattle.sl_sector.specs.SectorLayouts.{IsDigest, IsSectorSize}
use Rattle.sl_sector.specs.declared.sector.Rec.{Rec}
use Rattle.sl_run_law.proofs.Sessions.TraceGrowth.{all_of_it}
use Rattle.sl_run_law.proofs.Sessions.CallsAreMade.{calls_are_made}
use Rattle.sl_run_law.proofs.Sessions.CallOwners.{owned, sessions_stay}
use Rattle.sl_run_law.specs.Sessions.SessionLaws.{IsMade, IsSession}
use Rattle.sl_trace.specs.Sessions.{session_numbered}
use Rattle.sl_trace.specs.declared.session.Session.{Session}
use Rattle.sl_trace.specs.Traces.{Answered, Setting, Submitted, Trace, bytes_given, gave, is_ok_answer, is_write, record_of, same_place, submitted}
use Rattle.sl_trace.specs.declared.effects.Op.TheVariants.{ReadSectors}
use Rattle.sl_trace.specs.declared.effects.Op.{Op}
use Rattle.sl_trace.specs.declared.input.Answer.TheVariants.{Failed, Read, Written}
use Rattle.sl_trace.specs.declared.input.Answer.{Answer}
use Rattle.sl_words.proofs.CaseLaws.{none_some, some_value, true_is_false}
use Rattle.std.proofs.Common.{ap, arith, inl, inr, refl, subst, sym, ◌∙◌}
use Rattle.std.proofs.lemmas.Bool.{eq-eqb, eqb-true}
use Rattle.std.specs.Prelude.{Contains, List, drop, take, ◌++◌, ◌-◌, None, Ok, Option, Some, [], is_ok, length, not, option_and_then, option_map, true, ℕ, ◌*◌, ◌+◌, ◌<◌, ◌==◌, ◌∷◌, ◌≡◌, ◌⊎◌}

-- What the crates of calls, landings and samples promise.
pub record IsPromised : Type 0 where
  pub calls : CoursesAreCalls
  pub daemons : CoursesHaveDaemons
  pub of_world : DaemonsAreOfWorld
  pub written : LandingsAreWritten
  pub samples : SamplesAreLandings
  pub sectors : SampledAreSectors
  pub done : DoneReadsAreWhole

-- ---- the header stays

pub header_is : (p : Program) (h : Header) (xs : List Happening) → (world_at p h xs).header ≡ h
header_is p h xs = (run_goes (world_with p h) xs).header

pub layout_is : (p : Program) (h : Header) (xs : List Happening) → (world_at p h xs).layout ≡ layout_with p.digest h.geometry
layout_is p h xs = (run_goes (world_with p h) xs).layout

-- ---- a call in its trace

whole_of : (st : Setting) (es : Trace) (m : Submitted) (d : IsMade es m) → Orderly st es → Orderly st (d.later ++ d.entry ∷ d.past)
whole_of st es m d h = subst (λ t. Orderly st t) d.whole h

-- Each call is some session's.
pub owner_of : (st : Setting) (es : Trace) (m : Submitted) → Orderly st es → Contains (submitted es) m → (s : Session) × IsSession st es s × (m.call.session ≡ s.number)
owner_of st es m h there =
    let d = calls_are_made es m there in
    let here = orderly-front st d.later (d.entry ∷ d.past) (whole_of st es m d h) in
    let its = some_of (session_numbered st (d.entry ∷ d.past) m.call.session) (here.calls.0.owned m.call (got_inside d.entry.effects.calls d.index m.call d.call)) in
    let later : session_numbered st es m.call.session ≡ Some its.0 =
    subst (λ t. session_numbered st t m.call.session ≡ Some its.0) (sym d.whole) (sessions_stay st d.later (d.entry ∷ d.past) m.call.session its.0 its.1) in
    let number = session_number st es m.call.session its.0 later in
    (its.0, ap (λ n. session_numbered st es n) number ∙ later, sym number)

-- A session's call where it was made: the laws of its entry speak of it.
pub call_law : (st : Setting) (es : Trace) (s : Session) (m : Submitted) (d : IsMade es m) → Orderly st es → IsSession st es s → m.call.session ≡ s.number
    → Orderly st (d.entry ∷ d.past) × (session_numbered st (d.entry ∷ d.past) m.call.session ≡ Some s)
call_law st es s m d h its mine =
    let whole = whole_of st es m d h in (
      orderly-front st d.later (d.entry ∷ d.past) whole,
      owned st d.later d.entry d.past s whole (subst (λ t. IsSession st t s) d.whole its) d.index m.call d.call mine,
    )

-- What a call writes is a record.
pub writes_record : (st : Setting) (es : Trace) (m : Submitted) (r : Rec) → Orderly st es → Contains (submitted es) m → record_of m.call.op ≡ Some r → IsRecord r
writes_record st es m r h there is =
    let d = calls_are_made es m there in
    (orderly-front st d.later (d.entry ∷ d.past) (whole_of st es m d h)).calls.0.spelled m.call r (got_inside d.entry.effects.calls d.index m.call d.call) is

-- ---- a machine's call in its daemon's trace

pub record IsTraced (a : Machine) (c : Course) : Type 0 where
  pub daemon : Daemon
  pub has : Contains (daemons_on a) daemon
  pub numbered : daemon_numbered a c.daemon ≡ Some daemon
  pub lawful : Orderly daemon.setting daemon.trace
  pub submitted_as : Submitted
  pub inside : Contains (submitted daemon.trace) submitted_as
  pub is : IsCourseOf daemon c submitted_as

-- A daemon of a lawful run has a lawful trace.
pub lawful_daemon : (p : Program) (h : Header) (xs : List Happening) → LawfulRun p h xs → (m : ℕ) (a : Machine) (d : Daemon) → machine_at (world_at p h xs) m ≡ Some a
    → Contains (daemons_on a) d → Orderly d.setting d.trace
lawful_daemon p h xs run m a d at has =
    let w : World = world_at p h xs in
    run.lawful d (in_flat daemons_on w.machines a d (got_inside w.machines (m - 1) a (index w m a at).1) has)

pub traced : IsPromised → (p : Program) (h : Header) (xs : List Happening) → LawfulRun p h xs → (m : ℕ) (a : Machine) (c : Course) → machine_at (world_at p h xs) m ≡ Some a
    → Contains a.calls c → IsTraced a c
traced b p h xs run m a c at has =
    let some = b.daemons p h xs run m a c at has in
    let found = finds (λ (d : Daemon). d.number == c.daemon) (daemons_on a) some.0 (eq-eqb some.0.number c.daemon some.2) some.1 in
    let its = find_inside (λ (d : Daemon). d.number == c.daemon) (daemons_on a) found.0 found.1 in
    let mine : (c.daemon == found.0.number) ≡ true = eq-eqb c.daemon found.0.number (sym (eqb-true found.0.number c.daemon its.1)) in
    let other = partner (IsCourseOf found.0) (courses_of a found.0.number) (submitted found.0.trace) c (b.calls p h xs run m a found.0 at its.0)
    (kept (λ (x : Course). x.daemon == found.0.number) a.calls c mine has) in
    record {
      daemon = found.0;
      has = its.0;
      numbered = found.1;
      lawful = lawful_daemon p h xs run m a found.0 at its.0;
      submitted_as = other.0;
      inside = other.1;
      is = other.2;
    }

-- ---- a landing is read back

left_by : (w : World) (x : Landing) (c : Course) (r s : Rec) → IsDigest w.layout.digest → IsSectorSize w.layout.sector → IsRecord r → LeftBy w x c r
    → record_in w.layout x.bytes ≡ Ok s → r ≡ s
left_by w x c r s digest size is (inl whole) read =
    same_read (record_in w.layout x.bytes) r s (ap (λ bs. record_in w.layout bs) whole.2 ∙ spelled_is_read w.layout.digest digest w.layout.sector size r is) read
left_by w x c r s digest size is (inr torn) read = absurd (true_is_false (sym (ap (λ z. is_ok z) read) ∙ torn.2))

-- What the run's sectors are.
pub digest_is : (p : Program) (h : Header) (xs : List Happening) → LawfulRun p h xs → IsDigest (world_at p h xs).layout.digest
digest_is p h xs run = subst (λ (g : Layout). IsDigest g.digest) (sym (layout_is p h xs)) run.digest

-- What a landing spells is what its write wrote.
pub reads_back : IsPromised → (p : Program) (h : Header) (xs : List Happening) → LawfulRun p h xs → IsSectorSize (world_at p h xs).layout.sector
    → (x : Landing) (m n : ℕ) (k : IsWrittenBy (world_at p h xs) x m n) (s : Rec) → record_in (world_at p h xs).layout x.bytes ≡ Ok s → k.record_written ≡ s
reads_back b p h xs run size x m n k s read =
    let t = traced b p h xs run m k.machine k.course k.at k.has in
    let is : IsRecord k.record_written =
    writes_record t.daemon.setting t.daemon.trace t.submitted_as k.record_written t.lawful t.inside (ap (λ c. record_of c.op) t.is.call ∙ k.writes) in
    left_by (world_at p h xs) x k.course k.record_written s (digest_is p h xs run) size is k.left read

-- ---- a read shows landings

-- A read that was answered, with its course: all that it sampled was given.
pub record IsRead (a : Machine) (d : Daemon) (m : Submitted) (bytes : List ℕ) : Type 0 where
  pub answered : Answered
  pub its : m.answer ≡ Some answered
  pub course : Course
  pub has : Contains a.calls course
  pub is : IsCourseOf d course m
  pub stamp : Stamp
  pub entry : stamp_in d.stamps answered.at ≡ Some stamp
  pub closed : course.answered ≡ Some stamp
  pub sampled : bytes ≡ course.sampled
  pub whole : length course.samples ≡ sectors_of m.call.op

given_bytes : (x : Answer) (bytes : List ℕ) → bytes_given x ≡ Some bytes → x ≡ Read bytes
given_bytes (Read some) bytes h = ap (λ bs. Read bs) (some_value some bytes h)
given_bytes Written bytes h = absurd (none_some bytes h)
given_bytes Failed bytes h = absurd (none_some bytes h)

-- What a read gave is its answer.
pub answer_gave : (o : Option Answered) (bytes : List ℕ) → option_and_then (λ a. bytes_given a.answer) o ≡ Some bytes → (a : Answered) × (o ≡ Some a) × (a.answer ≡ Read bytes)
answer_gave None bytes h = absurd (none_some bytes h)
answer_gave (Some a) bytes h = (a, refl, given_bytes a.answer bytes h)

pub read_of : IsPromised → (p : Program) (h : Header) (xs : List Happening) → LawfulRun p h xs → (m : ℕ) (a : Machine) (d : Daemon) → machine_at (world_at p h xs) m ≡ Some a
    → Contains (daemons_on a) d → (q : Submitted) → Contains (submitted d.trace) q → (n : ℕ) → q.call.op ≡ ReadSectors n → (bytes : List ℕ) → gave q ≡ Some bytes
    → IsRead a d q bytes
read_of b p h xs run m a d at has q there n reads bytes given =
    let own = partner_of (IsCourseOf d) (courses_of a d.number) (submitted d.trace) q (b.calls p h xs run m a d at has) there in
    let inside = kept_inside (λ (c : Course). c.daemon == d.number) a.calls own.0 own.1 in
    let told = answer_gave q.answer bytes given in
    let heard : IsAnsweredAs d own.0 told.0 = subst (λ o. AnswersAgree d own.0 o) told.1 own.2.answers in
    let done : own.0.done ≡ true = heard.done ∙ ap (λ x. is_ok_answer x) told.2 in
    let op : own.0.call.op ≡ ReadSectors n = ap (λ c. c.op) (sym own.2.call) ∙ reads in
    record {
      answered = told.0;
      its = told.1;
      course = own.0;
      has = inside.0;
      is = own.2;
      stamp = heard.stamp;
      entry = heard.entry;
      closed = heard.answered;
      sampled = heard.gives bytes told.2;
      whole = b.done p h xs run m a own.0 at inside.0 done (ap (λ (o : Op). not (is_write o)) op) ∙ ap (λ c. sectors_of c.op) (sym own.2.call);
    }

-- The landing that a sector shows: it stood there at first, or came before this step.
pub record IsShown (w : World) (path : List ℕ) (offset : ℕ) (bytes : List ℕ) (before : ℕ) : Type 0 where
  pub landing : Landing
  pub shows : bytes ≡ landing.bytes
  pub place : (landing.path ≡ path) × (landing.offset ≡ offset)
  pub early : landing.step < before
  pub from : Contains w.landings landing ⊎ (landing ≡ first_landing w path offset)

pub in_history : (w : World) (path : List ℕ) (offset : ℕ) (x : Landing) → Contains (history_of w path offset) x
    → ((x.path ≡ path) × (x.offset ≡ offset)) × (Contains w.landings x ⊎ (x ≡ first_landing w path offset))
in_history w path offset x there = by (contains_append (landed_at w path offset) (first_landing w path offset ∷ []) x there) where
  by : Contains (landed_at w path offset) x ⊎ Contains (first_landing w path offset ∷ []) x
      → ((x.path ≡ path) × (x.offset ≡ offset)) × (Contains w.landings x ⊎ (x ≡ first_landing w path offset))
  by (inl landed) =
      let its = kept_inside (λ (l : Landing). same_place l.path l.offset path offset) w.landings x landed in
      (place_is x.path x.offset path offset its.1, inl its.0)
  by (inr at_first) =
      elim (contains_cases (first_landing w path offset) [] x at_first) as (λ z. ((x.path ≡ path) × (x.offset ≡ offset)) × (Contains w.landings x ⊎ (x ≡ first_landing w path offset))) [
        | inl here ↦ ((ap (λ l. l.path) (sym here), ap (λ l. l.offset) (sym here)), inr (sym here))
        | inr none ↦ absurd (contains_none x none)
      ]

shown_by : (w : World) (c : Course) (k : ℕ) (s : Sampling) (stamp : Stamp) → c.answered ≡ Some stamp → IsSampleOf w c k s
    → IsShown w c.call.path (sector_place w c k) (sector_of w.layout c.sampled k) stamp.step
shown_by w c k s stamp closed i =
    let its = in_history w c.call.path (sector_place w c k) i.landing (numbered_inside (history_of w c.call.path (sector_place w c k)) s.index i.landing i.seen) in
    let early : i.landing.step < stamp.step = omega (arith, i.newest.0, (i.before stamp closed).0) in
    record { landing = i.landing; shows = i.bytes; place = its.0; early = early; from = its.1 }

-- Each sector of a read shows one.
pub sector_shown : IsPromised → (p : Program) (h : Header) (xs : List Happening) → LawfulRun p h xs → (m : ℕ) (a : Machine) (d : Daemon) → machine_at (world_at p h xs) m ≡ Some a
    → (q : Submitted) (bytes : List ℕ) (r : IsRead a d q bytes) (k : ℕ) → k < sectors_of q.call.op
    → IsShown (world_at p h xs) q.call.path (q.call.offset + k * (world_at p h xs).layout.sector) (sector_of (world_at p h xs).layout bytes k) r.stamp.step
sector_shown b p h xs run m a d at q bytes r k lt =
    let w : World = world_at p h xs in
    let inside : k < length r.course.samples = omega (arith, lt, r.whole) in
    let some = there_is r.course.samples k inside in
    let shown = shown_by w r.course k some.0 r.stamp r.closed (b.samples p h xs run m a r.course k some.0 at r.has some.1) in
    subst (λ bs. IsShown w q.call.path (q.call.offset + k * w.layout.sector) (sector_of w.layout bs k) r.stamp.step) (sym r.sampled)
    (subst (λ c. IsShown w c.path (c.offset + k * w.layout.sector) (sector_of w.layout r.course.sampled k) r.stamp.step) (sym r.is.call) shown)

pub first_whole : (n : ℕ) (bs : List ℕ) → length bs ≡ n → take n (drop (0 * n) bs) ≡ bs
first_whole n bs h = ap (λ k. take n (drop k bs)) (no_times n) ∙ ap (λ k. take k bs) (sym h) ∙ all_of_it bs

-- What a read of one sector gave is that sector.
pub one_sector : IsPromised → (p : Program) (h : Header) (xs : List Happening) → LawfulRun p h xs → (m : ℕ) (a : Machine) (d : Daemon) → machine_at (world_at p h xs) m ≡ Some a
    → (q : Submitted) (bytes : List ℕ) (r : IsRead a d q bytes) → sectors_of q.call.op ≡ 1 → sector_of (world_at p h xs).layout bytes 0 ≡ bytes
one_sector b p h xs run m a d at q bytes r one =
    let w : World = world_at p h xs in
    let long = (b.sectors p h xs run m a r.course at r.has).0 in
    let count : length r.course.samples ≡ 1 = r.whole ∙ one in
    let size : length bytes ≡ 1 * w.layout.sector = ap (λ bs. length bs) r.sampled ∙ long ∙ ap (λ n. n * w.layout.sector) count in
    first_whole w.layout.sector bytes (size ∙ one_times w.layout.sector)

-- ---- a session of the world

-- The machine, the daemon and the session that are meant.
pub record IsInside (w : World) (i : SessionId) (f : Found) : Type 0 where
  pub at : machine_at w i.machine ≡ Some f.machine
  pub has : Contains (daemons_on f.machine) f.daemon
  pub its : session_numbered f.daemon.setting f.daemon.trace i.number ≡ Some f.session

abbrev found_as : World → Machine → Daemon → Session → Found
found_as w a d s = record { machine = a; daemon = d; session = s; now = w.moment }

inside_daemon : (w : World) (i : SessionId) (f : Found) (a : Machine) (d : Daemon) (o : Option Session) → machine_at w i.machine ≡ Some a → Contains (daemons_on a) d
    → session_numbered d.setting d.trace i.number ≡ o → option_map (λ (s : Session). found_as w a d s) o ≡ Some f → IsInside w i f
inside_daemon w i f a d None at has is h = absurd (none_some f h)
inside_daemon w i f a d (Some s) at has is h = subst (IsInside w i) (some_value (found_as w a d s) f h) (record { at = at; has = has; its = is })

inside_machine : (w : World) (i : SessionId) (f : Found) (a : Machine) (o : Option Daemon) → machine_at w i.machine ≡ Some a → daemon_numbered a i.daemon ≡ o
    → option_and_then (λ (d : Daemon). option_map (λ (s : Session). found_as w a d s) (session_numbered d.setting d.trace i.number)) o ≡ Some f → IsInside w i f
inside_machine w i f a None at is h = absurd (none_some f h)
inside_machine w i f a (Some d) at is h =
    inside_daemon w i f a d (session_numbered d.setting d.trace i.number) at (find_inside (λ (x : Daemon). x.number == i.daemon) (daemons_on a) d is).0 refl h

inside_world : (w : World) (i : SessionId) (f : Found) (o : Option Machine) → machine_at w i.machine ≡ o
    → option_and_then (λ (a : Machine). option_and_then (λ (d : Daemon). option_map (λ (s : Session). found_as w a d s) (session_numbered d.setting d.trace i.number))
    (daemon_numbered a i.daemon)) o ≡ Some f → IsInside w i f
inside_world w i f None is h = absurd (none_some f h)
inside_world w i f (Some a) is h = inside_machine w i f a (daemon_numbered a i.daemon) is refl h

pub session_inside : (w : World) (i : SessionId) (f : Found) → session_of_world w i ≡ Some f → IsInside w i f
session_inside w i f h = inside_world w i f (machine_at w i.machine) refl h
