-- What is kept by each act of a step, and true once a step has begun: what is known of calls, of jobs, of sessions in recovery or leaving.
use Rattle.sl_due_facts.specs.Acts.Acts.{Acts}
use Rattle.sl_due_facts.specs.Acts.TraceSoFar.{entry_of}
use Rattle.sl_due.specs.DueRecovery.{begin_recoveries}
use Rattle.sl_due.specs.Steps.{Step, begin_step, seen}
use Rattle.sl_due_facts.specs.Facts.CallFacts.{CallFacts}
use Rattle.sl_due_facts.specs.Facts.ConcludingActs.{Concludes}
use Rattle.sl_due_facts.specs.Facts.HeardCall.{heard_by}
use Rattle.sl_due_facts.specs.Facts.JobFacts.{JobFacts}
use Rattle.sl_due_facts.specs.Facts.SessionFacts.{QuietFacts}
use Rattle.sl_due_facts.specs.Facts.AllFacts.{Whole, WholeTrace}
use Rattle.sl_trace.specs.Traces.{FollowsTrace, Setting, Trace}
use Rattle.sl_trace.specs.declared.effects.Entry.{Entry}
use Rattle.std.specs.Prelude.{None}

-- What is true once a step has begun, after a trace with all its facts.
abbrev pub BeginsWith : (Step → Type 0) → Type 0
BeginsWith J = (st : Setting) (past : Trace) (e : Entry) → FollowsTrace st past e → WholeTrace st past → J (begin_recoveries (begin_step st past e.reading))

abbrev pub HasCallFacts : Step → Type 0
HasCallFacts x = CallFacts x.setting (seen x)

abbrev pub HasJobFacts : Step → Type 0
HasJobFacts x = JobFacts x.setting (seen x) (heard_by x.input)

abbrev pub HasQuietFacts : Step → Type 0
HasQuietFacts x = QuietFacts x.setting (seen x) (heard_by x.input)

-- The entry so far follows the trace before it.
abbrev pub FollowsSoFar : Step → Type 0
FollowsSoFar x = FollowsTrace x.setting x.past (entry_of x)

-- ---- entries

abbrev pub EntriesFollow : Type 0
EntriesFollow = Acts Whole FollowsSoFar

abbrev pub EntriesBegin : Type 0
EntriesBegin = BeginsWith FollowsSoFar

-- ---- calls

abbrev pub CallFactsAreKept : Type 0
CallFactsAreKept = Acts Whole HasCallFacts

abbrev pub CallFactsBegin : Type 0
CallFactsBegin = BeginsWith HasCallFacts

-- ---- jobs

abbrev pub JobFactsAreKept : Type 0
JobFactsAreKept = Acts Whole HasJobFacts

abbrev pub JobFactsBegin : Type 0
JobFactsBegin = BeginsWith HasJobFacts

-- ---- sessions in recovery or leaving

abbrev pub QuietFactsAreKept : Type 0
QuietFactsAreKept = Acts Whole HasQuietFacts

abbrev pub QuietFactsBegin : Type 0
QuietFactsBegin = BeginsWith HasQuietFacts

-- Nothing is left to be refused.
abbrev pub IsQuiet : Step → Type 0
IsQuiet x = QuietFacts x.setting (seen x) None

abbrev pub QuietFactsConclude : Type 0
QuietFactsConclude = Concludes Whole (λ x. Whole x × IsQuiet x) IsQuiet
