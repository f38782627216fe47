-- A trace is the list of a daemon's entries, the newest first. What is outstanding, running or held after it is a function of
-- the whole list, by recursion on the newest entry.
use Rattle.sl_area.specs.AreaSizes.{Layout}
use Rattle.sl_sector.specs.declared.sector.Rec.{Rec}
use Rattle.sl_time.specs.Times.{TimingNumbers}
use Rattle.sl_trace.specs.CountLimits.{most_processes}
use Rattle.sl_trace.specs.declared.command.Command.{Command}
use Rattle.sl_trace.specs.declared.effects.Call.{Call}
use Rattle.sl_trace.specs.declared.effects.Effects.{Effects}
use Rattle.sl_trace.specs.declared.effects.End.{End}
use Rattle.sl_trace.specs.declared.effects.Entry.{Entry}
use Rattle.sl_trace.specs.declared.effects.Grant.{Grant}
use Rattle.sl_trace.specs.declared.effects.Mode.TheVariants.{Exclusive, Shared}
use Rattle.sl_trace.specs.declared.effects.Mode.{Mode}
use Rattle.sl_trace.specs.declared.effects.Op.TheVariants.{ReadSectors, WriteRecord}
use Rattle.sl_trace.specs.declared.effects.Op.{Op}
use Rattle.sl_trace.specs.declared.effects.Purpose.TheVariants.{RequestRead, RequestWrite, Joining, Lease, Leaving, Renewal, SeeRequest, Survey, ValueRead, ValueWrite}
use Rattle.sl_trace.specs.declared.effects.Purpose.{Purpose}
use Rattle.sl_trace.specs.declared.effects.Spot.{Spot}
use Rattle.sl_trace.specs.declared.effects.Start.{Start}
use Rattle.sl_trace.specs.declared.effects.Work.TheVariants.{ForJob, Settling}
use Rattle.sl_trace.specs.declared.effects.Work.{Work}
use Rattle.sl_trace.specs.declared.input.Answer.TheVariants.{Failed, Read, Written}
use Rattle.sl_trace.specs.declared.input.Answer.{Answer}
use Rattle.sl_trace.specs.declared.input.Given.{Given}
use Rattle.sl_trace.specs.declared.input.Input.TheVariants.{Answer as Told, Exit, Line, Number, Spawned}
use Rattle.sl_trace.specs.declared.input.Input.{Input}
use Rattle.sl_trace.specs.declared.input.Numbers.{Numbers}
use Rattle.sl_trace.specs.declared.reply.Reply.TheVariants.{IoTimeout, Recovering}
use Rattle.sl_trace.specs.declared.reply.Reply.{Reply}
use Rattle.sl_words.specs.Bounds.{moments}
use Rattle.sl_words.specs.Words.{greatest, some_is}
use Rattle.std.specs.List.{list_any, range_with_len}
use Rattle.std.specs.Option.{option_or}
use Rattle.std.specs.Prelude.{Bool, IsTrue, List, None, Option, Result, Some, bytes_eq, drop, false, filter, find, fold, is_none, length, map, nat_lt, not, option_and_then, option_map, slice_get, true, [], ℕ, ◌&&◌, ◌*◌, ◌++◌, ◌+◌, ◌-◌, ◌<◌, ◌==◌, ◌∷◌, ◌≡◌, ◌≤◌}

-- What a daemon is made of.
pub record Setting : Type 0 where
  pub timing : TimingNumbers
  pub grace : ℕ
  pub layout : Layout
  pub machine : ℕ
  pub name : List ℕ
  pub first : Numbers
  pub given : List Given
  -- what a command line says, or the column of its first word that doesn't fit
  pub read : List ℕ → Result Command ℕ

-- The newest entry stands first.
abbrev pub Trace : Type 0
Trace = List Entry

-- The trace as it was after its first k entries.
abbrev pub front : ℕ → Trace → Trace
front k es = drop (length es - k) es

-- Entry i, counted from 0 for the oldest.
abbrev pub entry_at : Trace → ℕ → Option Entry
entry_at es i = elim (nat_lt i (length es)) [ false ↦ None | true ↦ slice_get es (length es - 1 - i) ]

-- A step that does nothing.
abbrev pub no_effects : Effects
no_effects = record { ends = []; signals = []; moves = []; grants = []; starts = []; replies = []; calls = [] }

-- ---- jobs and their replies

-- A command line with its number, its entry and what it says.
pub record Job : Type 0 where
  pub number : ℕ
  pub at : ℕ
  pub reading : ℕ
  pub command : Result Command ℕ

-- A reply with the place of its entry.
pub record Replied : Type 0 where
  pub at : ℕ
  pub reply : Reply

-- The text of a command line.
abbrev pub line_in : Input → Option (List ℕ)
line_in (Line text) = Some text
line_in i = None

-- The command line of the entry after these, as the job with this number.
abbrev pub job_in : Setting → Trace → ℕ → Entry → List Job
job_in st es number e =
    elim (line_in e.input) [
      | None ↦ []
      | Some text ↦ record { number = number; at = length es; reading = e.reading; command = st.read text } ∷ []
    ]

-- Whether an input takes a job's number: a command line, or another line, which is no job.
abbrev pub takes_number : Input → Bool
takes_number (Line text) = true
takes_number (Number text) = true
takes_number i = false

-- How many numbers were taken.
abbrev pub numbers_taken : Trace → ℕ
numbers_taken [] = 0
numbers_taken (e ∷ es) = elim (takes_number e.input) [ true ↦ numbers_taken es + 1 | false ↦ numbers_taken es ]

-- The number of the next line.
abbrev pub next_job : Setting → Trace → ℕ
next_job st es = st.first.job + numbers_taken es

-- These jobs with that of the entry after those before it, if it has a command line: it has the next number.
abbrev pub with_job : Setting → Trace → List Job → Entry → List Job
with_job st es js e = js ++ job_in st es (next_job st es) e

-- All jobs, by their numbers.
abbrev pub jobs : Setting → Trace → List Job
jobs st [] = []
jobs st (e ∷ es) = with_job st es (jobs st es) e

-- The reply to this job in the entry after these.
abbrev pub reply_in : ℕ → Trace → Entry → Option Replied
reply_in job es e = option_map (λ a. record { at = length es; reply = a.reply }) (find (λ a. a.job == job) e.effects.replies)

-- The reply to a job.
abbrev pub reply_to : Trace → ℕ → Option Replied
reply_to [] job = None
reply_to (e ∷ es) job = elim (reply_to es job) [ Some r ↦ Some r | None ↦ reply_in job es e ]

-- Whether a job of this number has no reply yet.
abbrev pub is_running : Trace → ℕ → Bool
is_running es job = is_none (reply_to es job)

-- The jobs without a reply, by their numbers.
abbrev pub running_jobs : Setting → Trace → List Job
running_jobs st es = filter (λ j. is_running es j.number) (jobs st es)

-- The job with this number.
abbrev pub job_numbered : Setting → Trace → ℕ → Option Job
job_numbered st es number = find (λ j. j.number == number) (jobs st es)

-- The job on whose account work is done, if any.
abbrev pub work_job : Work → Option ℕ
work_job (ForJob j) = Some j
work_job Settling = None

-- The job that a call belongs to, if any.
abbrev pub job_of : Purpose → Option ℕ
job_of (Joining j step) = Some j
job_of Renewal = None
job_of Survey = None
job_of (Leaving j) = Some j
job_of (Lease work step) = work_job work
job_of (RequestRead j) = Some j
job_of (RequestWrite j owner) = Some j
job_of SeeRequest = None
job_of (ValueWrite j) = Some j
job_of (ValueRead j) = Some j

-- Whether a reply ends a job before the input of its step is looked at. All other replies come at the input or after it. (Where a
-- recovery or a leaving begins in the input, that input answers no call of a job.)
abbrev pub is_before_input : Reply → Bool
is_before_input (IoTimeout call from to) = true
is_before_input (Recovering t) = true
is_before_input r = false

-- Whether the entry refuses this job before its input.
abbrev pub is_refused_before_input : Entry → ℕ → Bool
is_refused_before_input e job = list_any (λ a. a.job == job && is_before_input a.reply) e.effects.replies

-- ---- calls and their answers

-- An answer, with the place and the reading of the entry that brought it, and whether it was heeded: whether its work still went on.
pub record Answered : Type 0 where
  pub at : ℕ
  pub reading : ℕ
  pub answer : Answer
  -- a job that was refused before concludes nothing by it
  pub heeded : Bool

-- A call, with the place and the reading of the entry that submitted it, and its answer, if it has one.
pub record Submitted : Type 0 where
  pub at : ℕ
  pub reading : ℕ
  pub call : Call
  pub answer : Option Answered

-- A call that is submitted in the entry after `at` others.
abbrev pub new_call : ℕ → ℕ → Call → Submitted
new_call at reading c = record { at = at; reading = reading; call = c; answer = None }

-- Whether work on this job's account goes on in the entry after these, until its input is looked at.
abbrev pub is_going_on : Trace → Entry → Option ℕ → Bool
is_going_on es e None = true
is_going_on es e (Some job) = is_running es job && not (is_refused_before_input e job)

-- The answer that the entry after these brings to a call.
abbrev pub answer_of : Trace → Entry → Answer → Call → Answered
answer_of es e a c = record { at = length es; reading = e.reading; answer = a; heeded = is_going_on es e (job_of c.purpose) }

-- The call with this answer, if it is the one that is answered and has none.
abbrev pub answered_in : Trace → Entry → ℕ → Answer → Submitted → Submitted
answered_in es e number a m =
    elim (m.call.number == number) [ false ↦ m | true ↦ record m { answer = option_or m.answer (Some (answer_of es e a m.call)) } ]

-- The calls, with the answer that the entry after these brings.
abbrev pub mark : Trace → Entry → Input → List Submitted → List Submitted
mark es e (Told number a) ms = map (answered_in es e number a) ms
mark es e i ms = ms

-- All calls with their answers, the newest first.
abbrev pub submitted : Trace → List Submitted
submitted [] = []
submitted (e ∷ es) = fold (λ ms c. new_call (length es) e.reading c ∷ ms) (mark es e e.input (submitted es)) e.effects.calls

-- Those of these calls that have no answer.
abbrev pub unanswered : List Submitted → List Submitted
unanswered ms = filter (λ m. is_none m.answer) ms

-- The calls without an answer, the newest first.
abbrev pub outstanding : Trace → List Submitted
outstanding es = unanswered (submitted es)

-- The call with this number.
abbrev pub call_numbered : Trace → ℕ → Option Submitted
call_numbered es number = find (λ m. m.call.number == number) (submitted es)

-- The number of the next call.
abbrev pub next_call : Setting → Trace → ℕ
next_call st es = st.first.call + length (submitted es)

-- Whether it writes.
abbrev pub is_write : Op → Bool
is_write (ReadSectors n) = false
is_write (WriteRecord r) = true

-- The record that a call writes.
abbrev pub record_of : Op → Option Rec
record_of (ReadSectors n) = None
record_of (WriteRecord r) = Some r

-- Whether it did what the call asked.
abbrev pub is_ok_answer : Answer → Bool
is_ok_answer (Read bytes) = true
is_ok_answer Written = true
is_ok_answer Failed = false

-- Whether the call was answered ok.
abbrev pub is_answered_ok : Submitted → Bool
is_answered_ok m = some_is (λ a. is_ok_answer a.answer) m.answer

-- Whether it was answered while its work went on.
abbrev pub is_heeded : Submitted → Bool
is_heeded m = some_is (λ a. a.heeded) m.answer

-- The bytes that a read gave.
abbrev pub bytes_given : Answer → Option (List ℕ)
bytes_given (Read bytes) = Some bytes
bytes_given Written = None
bytes_given Failed = None

-- The bytes that the call read, once it is answered.
abbrev pub gave : Submitted → Option (List ℕ)
gave m = option_and_then (λ a. bytes_given a.answer) m.answer

-- Whether the call belongs to the job.
abbrev pub is_of_job : ℕ → Submitted → Bool
is_of_job job m = some_is (λ j. j == job) (job_of m.call.purpose)

-- A job's call without an answer: there is at most one.
abbrev pub waiting_call : Trace → ℕ → Option Submitted
waiting_call es job = find (is_of_job job) (outstanding es)

-- ---- holdings

-- Whether two places are one.
abbrev pub same_place : List ℕ → ℕ → List ℕ → ℕ → Bool
same_place path offset path' offset' = offset == offset' && bytes_eq path path'

-- Whether two areas are one.
abbrev pub same_spot : Spot → Spot → Bool
same_spot a b = same_place a.path a.base b.path b.base

-- The area under a holding.
abbrev pub spot_of_grant : Grant → Spot
spot_of_grant g = record { path = g.path; base = g.offset }

-- Whether the mode is the shared one.
abbrev pub is_shared : Mode → Bool
is_shared Exclusive = false
is_shared Shared = true

-- Whether one of these ends is that of the grant: its process and its place.
abbrev pub is_ended_by : List End → Grant → Bool
is_ended_by ends g = list_any (λ e. e.process == g.process && same_place e.path e.offset g.path g.offset) ends

-- What is held after a step: its ends come before its grants.
abbrev pub held_after : Effects → List Grant → List Grant
held_after fx held = filter (λ g. not (is_ended_by fx.ends g)) held ++ fx.grants

-- The holdings that were granted and haven't ended, in the order of their grants.
abbrev pub holdings : Trace → List Grant
holdings [] = []
holdings (e ∷ es) = held_after e.effects (holdings es)

-- What a process has of a place, among these holdings.
abbrev pub held_by : List Grant → ℕ → List ℕ → ℕ → List Grant
held_by held p path offset = filter (λ g. g.process == p && same_place g.path g.offset path offset) held

-- The end of a holding: it tells the names of the grant.
abbrev pub end_of : Grant → End
end_of g = record { process = g.process; lockspace = g.lockspace; resource = g.resource; path = g.path; offset = g.offset }

-- ---- orphans: holdings that have outlived their process

-- The number that stands for no process: its holdings are the machine's orphans.
abbrev pub no_process : ℕ
no_process = 0

-- Whether the holding is an orphan.
abbrev pub is_orphan : Grant → Bool
is_orphan g = g.process == no_process

-- What a persistent holding becomes when its process exits: the same in mode and instance, of no process.
abbrev pub orphan_of : Grant → Grant
orphan_of g = record g { process = no_process }

-- Whether one of these holdings is the orphan of the grant's place.
abbrev pub has_orphan_of : List Grant → Grant → Bool
has_orphan_of held g = list_any (λ h. is_orphan h && same_place h.path h.offset g.path g.offset) held

-- Whether the process's holding becomes an orphan: it is persistent, and there is none of its place yet.
abbrev pub leaves_orphan : List Grant → ℕ → Grant → Bool
leaves_orphan held p g = g.process == p && g.persistent && not (has_orphan_of held g)

-- The orphans that the exit of a process makes of these holdings, in the order of their grants.
abbrev pub orphans_left : ℕ → List Grant → List Grant
orphans_left p held = map orphan_of (filter (leaves_orphan held p) held)

-- ---- children

-- A child that was to be started, for which job or in place of whose term, how its start was answered, and whether it has exited since.
pub record Child : Type 0 where
  pub process : ℕ
  pub job : Option ℕ
  pub stands_for : Option ℕ
  pub answer : Option Bool
  pub exited : Bool

-- A child before its start is answered.
abbrev pub new_child : Start → Child
new_child s = record { process = s.process; job = s.job; stands_for = s.stands_for; answer = None; exited = false }

-- A child after an input: its start's answer, or its exit.
abbrev pub child_after : Input → Child → Child
child_after (Spawned p ok) k = elim (p == k.process) [ false ↦ k | true ↦ record k { answer = option_or k.answer (Some ok) } ]
child_after (Exit p) k = elim (p == k.process) [ false ↦ k | true ↦ record k { exited = true } ]
child_after i k = k

-- All children, the oldest first.
abbrev pub children : Trace → List Child
children [] = []
children (e ∷ es) = map (child_after e.input) (children es) ++ map new_child e.effects.starts

-- The child with this number.
abbrev pub child_numbered : Trace → ℕ → Option Child
child_numbered es process = find (λ k. k.process == process) (children es)

-- Whether a child of this number was to be started, and how is not yet told.
abbrev pub is_starting : Trace → ℕ → Bool
is_starting es process = some_is (λ k. is_none k.answer) (child_numbered es process)

-- Whether it is a running child: its start was answered ok, and it hasn't exited.
abbrev pub is_child : Trace → ℕ → Bool
is_child es process = some_is (λ k. some_is (λ ok. ok) k.answer && not k.exited) (child_numbered es process)

-- The number of a daemon's first child.
abbrev pub first_child : ℕ
first_child = most_processes + 1

-- The number of the next child.
abbrev pub next_child : Trace → ℕ
next_child es = first_child + length (children es)

-- The process for whose term a child stands, if it does.
abbrev pub stands_for : Trace → ℕ → Option ℕ
stands_for es process = option_and_then (λ k. k.stands_for) (child_numbered es process)

-- The process that exits by an input.
abbrev pub exited_by : Input → Option ℕ
exited_by (Exit p) = Some p
exited_by i = None

-- ---- what a trace is

-- Whether a call of this kind may be answered so: a read by as many bytes as it asks.
abbrev pub is_answer_for : Setting → Answer → Op → Bool
is_answer_for st (Read bytes) (ReadSectors n) = length bytes == n * st.layout.sector
is_answer_for st (Read bytes) (WriteRecord r) = false
is_answer_for st Written (ReadSectors n) = false
is_answer_for st Written (WriteRecord r) = true
is_answer_for st Failed op = true

-- Whether the input may come after these entries: it answers what is outstanding.
abbrev pub is_expected : Setting → Trace → Input → Bool
is_expected st es (Told call answer) = list_any (λ m. m.call.number == call && is_answer_for st answer m.call.op) (outstanding es)
is_expected st es (Spawned process ok) = is_starting es process
is_expected st es i = true

-- What is said of each entry, with those before it.
abbrev pub EachEntry : (Trace → Entry → Type 0) → Trace → Type 0
EachEntry P [] = Unit {0}
EachEntry P (e ∷ es) = P es e × EachEntry P es

-- The last reading, at first the greatest that the setting gives.
abbrev pub last_reading : Setting → Trace → ℕ
last_reading st [] = greatest (map (λ g. g.renewed) st.given)
last_reading st (e ∷ es) = e.reading

-- How an entry follows those before it.
pub record FollowsTrace (st : Setting) (past : Trace) (e : Entry) : Type 0 where
  -- clocks never go back, else no wait would tell anything
  pub time : last_reading st past ≤ e.reading
  -- readings are stamps of records
  pub below : e.reading < moments
  -- nothing is answered that wasn't asked, and nothing twice
  pub expected : IsTrue (is_expected st past e.input)
  -- calls are numbered in order, so a number names one call
  pub numbered : map (λ c. c.number) e.effects.calls ≡ range_with_len (next_call st past) (length e.effects.calls)

-- The list is the trace of a daemon.
abbrev pub IsTrace : Setting → Trace → Type 0
IsTrace st es = EachEntry (FollowsTrace st) es
