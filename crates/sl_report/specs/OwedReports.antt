-- What the program promises of the bytes that it reads and writes.
--
-- 1. Of the run: `SoundRun`, `GoodRun`.
-- 2. Of a whole source: `ReplayOf`, its report and status.
-- 3. Of bytes that were read, where the source may go on: `MayHaveBeen`, and `FrontOf` where reading, writing or memory failed.
-- 4. Both, by the status: `ReplayOwed`; and that the report is the one that is computed: `ReplayHeadline`, `Headline`.
-- 5. Of the schedule that a seed gives: `GenOf`, `GenHeadline`.
use Rattle.sl_due.specs.Due.{IsHostTrace}
use Rattle.sl_due.specs.IdleJobs.{NoIdleJob}
use Rattle.sl_run.specs.Caused.{IsCaused}
use Rattle.sl_run.specs.Lawful.{Lawful}
use Rattle.sl_report.specs.GeneratedSchedules.{IsGenerated, gen_header, gen_line}
use Rattle.sl_report.specs.Languages.{Language}
use Rattle.sl_report.specs.Reports.{end_line, no_counts, run_counts, run_lines}
use Rattle.sl_report.specs.RefusalLines.{refusal_line}
use Rattle.sl_report.specs.Schedules.{Ending, Follows, FollowsSoFar, Header_read, Header_refused, NumberedLine, event_lines_of, numbered_lines, read_header, replay_lines, report_of, status_of}
use Rattle.sl_run.specs.Headers.{IsHeader}
use Rattle.sl_run.specs.Quiet.{QuietIsGranted}
use Rattle.sl_run.specs.Runs.{AfterEachFront, EachDaemon, Happening, IsRun}
use Rattle.sl_run.specs.Safety.{SafeRun, world_at}
use Rattle.sl_run.specs.Values.{ValuesAreLast}
use Rattle.sl_run.specs.Worlds.{Program, world_with}
use Rattle.sl_run.specs.declared.event.Refusal.{Refusal}
use Rattle.sl_run.specs.declared.header.Header.{Header}
use Rattle.sl_text.specs.Forms.{as_bytes}
use Rattle.std.specs.Int.{is_in_range}
use Rattle.std.specs.Prelude.{Bool, IsTrue, List, MatchBool, length, nat_le, [], ℕ, ◌++◌, ◌==◌, ◌∷◌, ◌≡◌}

-- A run as it must be, whatever it does: each daemon does what is due, so its trace is lawful, each refusal has its cause and no job is
-- left idle; at no moment do two running holders conflict.
pub record SoundRun (p : Program) (h : Header) (xs : List Happening) : Type 0 where
  pub is_run : IsRun (world_with p h) xs
  pub is_due : EachDaemon IsHostTrace (world_at p h xs)
  pub lawful : EachDaemon Lawful (world_at p h xs)
  pub caused : EachDaemon IsCaused (world_at p h xs)
  -- no job is ever left idle
  pub busy : AfterEachFront xs (λ now. EachDaemon NoIdleJob (world_at p h now))
  pub safe : SafeRun p h xs
  pub no_conflict : (run_counts (world_with p h) no_counts xs).conflicts ≡ 0

-- A run as it should be: it is sound, values read are the last ones, and a quiet acquire is granted.
pub record GoodRun (p : Program) (h : Header) (xs : List Happening) : Type 0 where
  pub sound : SoundRun p h xs
  pub values : ValuesAreLast (world_at p h xs)
  pub quiet : QuietIsGranted (world_with p h) xs

-- What is promised of a run.
abbrev pub Promise : Type 1
Promise = Program → Header → List Happening → Type 0

-- The whole report of a source, with the status that goes with it; of its run this is promised.
pub data ReplayOf (promised : Promise) (lang : Language) (source : List ℕ) : List ℕ → ℕ → Type 0 where
  In_header : {written : List ℕ} → (number : ℕ) (why : Refusal) → read_header lang [] 1 (numbered_lines source) ≡ Header_refused number why →
      written ≡ as_bytes (refusal_line number (lang.told why) ∷ []) → ReplayOf promised lang source written 1
  In_events : {written : List ℕ} {status : ℕ} → (h : Header) (rest : List NumberedLine) (xs : List Happening) (end : Ending) →
      read_header lang [] 1 (numbered_lines source) ≡ Header_read h rest → Follows (world_with lang.program h) (event_lines_of lang h rest) xs end →
      promised lang.program h xs → written ≡ as_bytes (report_of lang h xs end) → status ≡ status_of end → ReplayOf promised lang source written status

-- The one text begins the other.
abbrev pub IsFrontOf : List ℕ → List ℕ → Type 0
IsFrontOf xs ys = (rest : List ℕ) × (ys ≡ xs ++ rest)

-- Which sources there may have been: the bytes read, where the source ended with them, else each that begins so.
abbrev pub MayHaveBeen : Bool → List ℕ → List ℕ → Type 0
MayHaveBeen ended read source = MatchBool ended (source ≡ read) (IsFrontOf read source)

-- Whether the status tells that all was read and written.
abbrev pub is_whole_status : ℕ → Bool
is_whole_status status = nat_le status 1

-- What is written begins the report of a source: it is nothing, or begins the lines of a run that follows the source's events so far, or
-- begins a whole report; of that run this is promised.
pub data FrontOf (promised : Promise) (lang : Language) (source written : List ℕ) : Type 0 where
  Of_nothing : written ≡ [] → FrontOf promised lang source written
  Of_events : (h : Header) (rest : List NumberedLine) (xs : List Happening) → read_header lang [] 1 (numbered_lines source) ≡ Header_read h rest →
      FollowsSoFar (world_with lang.program h) (event_lines_of lang h rest) xs → promised lang.program h xs →
      IsFrontOf written (as_bytes (run_lines (world_with lang.program h) xs)) → FrontOf promised lang source written
  Of_report : (report : List ℕ) (status : ℕ) → ReplayOf promised lang source report status → IsFrontOf written report → FrontOf promised lang source written

-- What is owed for the bytes that were read, whether the source ended with them, the bytes that were written, and the status, whatever is
-- promised of runs: with 0 or 1 the whole report, whatever the rest of the source; with 3, 4 and 5 a front of it.
abbrev pub ReplayOwed : Promise → Language → Bool → List ℕ → List ℕ → ℕ → Type 0
ReplayOwed promised lang ended read written status =
    MatchBool (is_whole_status status) ((source : List ℕ) → MayHaveBeen ended read source → ReplayOf promised lang source written status)
    (IsTrue (is_in_range 3 5 status) × ((source : List ℕ) → MayHaveBeen ended read source → FrontOf promised lang source written))

-- What `replay` owes for the bytes that it read, whether the source ended with them, the bytes that it wrote, and its status: with 0 or 1
-- the whole report, whatever the rest of the source; with 3, 4 and 5 a front of the report that the plain program computes.
abbrev pub ReplayHeadline : Promise → Language → Bool → List ℕ → List ℕ → ℕ → Type 0
ReplayHeadline promised lang ended read written status =
    MatchBool (is_whole_status status) ((source : List ℕ) → MayHaveBeen ended read source → ReplayOf promised lang source written status)
    (IsTrue (is_in_range 3 5 status)
    × ((source : List ℕ) → MayHaveBeen ended read source → IsFrontOf written (as_bytes (replay_lines lang source))))

-- A header that is read is one that a world may begin with.
abbrev pub HeadersAreGood : Language → Type 0
HeadersAreGood lang =
    (source : List ℕ) (h : Header) (rest : List NumberedLine) → read_header lang [] 1 (numbered_lines source) ≡ Header_read h rest → IsHeader h

-- `gen`: the run of the seed's schedule, whose areas have pairs or not, and of which the last line is printed.
pub record GenOf (p : Program) (seed hosts events : ℕ) (paired : Bool) (written : List ℕ) : Type 0 where
  pub run : List Happening
  pub events_are : IsGenerated 1 hosts (world_with p (gen_header hosts paired)) seed run × (length run ≡ events)
  pub good : GoodRun p (gen_header hosts paired) run
  pub printed : written ≡ as_bytes (gen_line seed hosts events paired ∷ end_line (run_counts (world_with p (gen_header hosts paired)) no_counts run) ∷ [])

-- What `gen` owes for the bytes that it wrote and its status.
abbrev pub GenHeadline : Program → ℕ → ℕ → ℕ → Bool → List ℕ → ℕ → Type 0
GenHeadline p seed hosts events paired written status =
    MatchBool (status == 0) (GenOf p seed hosts events paired written)
    (IsTrue (is_in_range 4 5 status) × ((report : List ℕ) → GenOf p seed hosts events paired report → IsFrontOf written report))

-- What is written, and promised so much of its run, is the plain program's report: so the report is one, and the program computes it.
abbrev pub Headline : Promise → Language → Type 0
Headline promised lang =
    (source : List ℕ) (status : ℕ) (written : List ℕ) → ReplayOf promised lang source written status → written ≡ as_bytes (replay_lines lang source)
