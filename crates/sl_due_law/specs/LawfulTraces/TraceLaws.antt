-- What is shown of each trace of a daemon that does what is due, and from what.
use Rattle.sl_due_facts.specs.Acts.TraceSoFar.{entry_of}
use Rattle.sl_due.specs.Due.{IsDue, IsHostTrace}
use Rattle.sl_due.specs.IdleJobs.{NoIdleJob}
use Rattle.sl_due.specs.Steps.{Step, seen}
use Rattle.sl_due_law.specs.LawfulTraces.Busy.{Waits}
use Rattle.sl_due_law.specs.LawfulTraces.CarriedFacts.{Holds}
use Rattle.sl_run.specs.Caused.{AnswersWell, IsCaused}
use Rattle.sl_run.specs.Lawful.{IsSetting, Lawful}
use Rattle.sl_run.specs.LawfulCalls.{may_submit}
use Rattle.sl_run.specs.LawfulDelta.{LawfulDelta}
use Rattle.sl_run.specs.LawForms.{EachCall}
use Rattle.sl_sector.specs.Records.{IsRecord}
use Rattle.sl_sector.specs.declared.sector.Rec.{Rec}
use Rattle.sl_trace.specs.Sessions.{stage_of}
use Rattle.sl_due_facts.specs.Facts.AllFacts.{Facts}
use Rattle.sl_trace.specs.Traces.{FollowsTrace, Setting, Trace, is_running, record_of}
use Rattle.sl_trace.specs.declared.effects.Call.{Call}
use Rattle.sl_trace.specs.declared.effects.Entry.{Entry}
use Rattle.sl_trace.specs.declared.effects.JoinStep.TheVariants.{FirstRead}
use Rattle.sl_trace.specs.declared.effects.Purpose.{Purpose}
use Rattle.sl_trace.specs.declared.effects.Purpose.TheVariants.{Joining, SeeRequest}
use Rattle.std.specs.Prelude.{Bool, Contains, IsTrue, None, Some, [], false, true, ℕ, ◌∷◌, ◌≡◌}

abbrev pub DeltasSoFar : Step → Type 0
DeltasSoFar x = LawfulDelta x.setting x.past (entry_of x)

-- What is written has a spelling.
abbrev pub SpelledSoFar : Step → Type 0
SpelledSoFar x = (c : Call) (r : Rec) → Contains x.effects.calls c → record_of c.op ≡ Some r → IsRecord r

-- Whether no other law says that the call's session may call.
abbrev pub is_lone_read : Purpose → Bool
is_lone_read (Joining j FirstRead) = true
is_lone_read SeeRequest = true
is_lone_read p = false

-- The session of a first read, or of a look at a request, may call.
abbrev pub LonesSoFar : Step → Type 0
LonesSoFar x = EachCall x.setting (λ es s c. IsTrue (is_lone_read c.call.purpose) → IsTrue (may_submit (stage_of es s))) x.past (entry_of x)

-- The facts hold before the first entry.
abbrev pub FactsAtFirst : Type 0
FactsAtFirst = (st : Setting) → IsSetting st → Facts st [] None

-- An entry's replies have their causes.
abbrev pub EntriesAreCaused : Type 0
EntriesAreCaused = (st : Setting) (past : Trace) (e : Entry) → FollowsTrace st past e → IsDue st past e → Holds st past → Holds st (e ∷ past) → AnswersWell st past e

-- The job waits for something, if it runs.
abbrev pub MayRest : Step → ℕ → Type 0
MayRest y j = is_running (seen y) j ≡ true → Waits y.setting (seen y) None None j

-- Each trace of steps that are due holds.
abbrev pub TracesHold : Type 0
TracesHold = (st : Setting) (es : Trace) → IsSetting st → IsHostTrace st es → Holds st es

-- So what is due is lawful.
abbrev pub TracesAreLawful : Type 0
TracesAreLawful = (st : Setting) (es : Trace) → IsSetting st → IsHostTrace st es → Lawful st es

-- No job is idle.
abbrev pub NoneIsIdle : Type 0
NoneIsIdle = (st : Setting) (es : Trace) → IsSetting st → IsHostTrace st es → NoIdleJob st es

-- And all together.
abbrev pub DueIsWellWith : Type 0
DueIsWellWith = EntriesAreCaused → (st : Setting) (es : Trace) → IsSetting st → IsHostTrace st es → Lawful st es × IsCaused st es × NoIdleJob st es
