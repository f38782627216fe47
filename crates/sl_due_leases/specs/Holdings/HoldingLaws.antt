-- What is kept by each act of a step, and true once a step has begun: what is known of holdings.
use Rattle.sl_due_facts.specs.Acts.Acts.{Acts}
use Rattle.sl_due.specs.DueRecovery.{begin_recoveries}
use Rattle.sl_due.specs.Steps.{Step, begin_step, seen}
use Rattle.sl_due_leases.specs.Holdings.Moments.{Known, Moment}
use Rattle.sl_due_facts.specs.Facts.HeardCall.{heard_by}
use Rattle.sl_due_facts.specs.Facts.HoldingFacts.{HoldingFacts}
use Rattle.sl_due_facts.specs.Facts.AllFacts.{WholeTrace}
use Rattle.sl_trace.specs.Traces.{FollowsTrace, Setting, Trace}
use Rattle.sl_trace.specs.declared.effects.Entry.{Entry}

-- What is true once a step has begun, after a trace with all its facts.
abbrev pub Begins : (Step → Type 0) → Type 0
Begins J = (st : Setting) (past : Trace) (e : Entry) → FollowsTrace st past e → WholeTrace st past → J (begin_recoveries (begin_step st past e.reading))

-- ---- how far a step has come

abbrev pub MomentsAreKept : Type 0
MomentsAreKept = Acts Moment Moment

abbrev pub MomentsBegin : Type 0
MomentsBegin = Begins Moment

-- ---- holdings

abbrev pub HasHoldingFacts : Step → Type 0
HasHoldingFacts x = HoldingFacts x.setting (seen x) (heard_by x.input)

abbrev pub HoldingFactsAreKept : Type 0
HoldingFactsAreKept = Acts Known HasHoldingFacts

abbrev pub HoldingFactsBegin : Type 0
HoldingFactsBegin = Begins HasHoldingFacts
