-- What is kept by each act of a step, and true once a step has begun: what is known of connections, and the laws of sessions.
use Rattle.sl_due_facts.specs.Acts.Acts.{Acts}
use Rattle.sl_due_facts.specs.Acts.TraceSoFar.{entry_of}
use Rattle.sl_due.specs.Steps.{Step, seen}
use Rattle.sl_due_facts.specs.Jobs.JobLaws.{BeginsWith}
use Rattle.sl_run.specs.LawfulConnections.{LawfulWatchdog}
use Rattle.sl_due_facts.specs.Connections.MovedSoFar.{MovedSoFar}
use Rattle.sl_due_facts.specs.Facts.ConcludingActs.{Concludes}
use Rattle.sl_due_facts.specs.Facts.HeardCall.{heard_by}
use Rattle.sl_due_facts.specs.Facts.HoldingFacts.{HoldingFacts}
use Rattle.sl_due_facts.specs.Facts.SessionFacts.{ConnectionFacts}
use Rattle.sl_due_facts.specs.Facts.AllFacts.{Whole}
use Rattle.std.specs.Prelude.{None}

abbrev pub HasConnectionFacts : Step → Type 0
HasConnectionFacts x = ConnectionFacts x.setting (seen x) (heard_by x.input)

abbrev pub ConnectionFactsAreKept : Type 0
ConnectionFactsAreKept = Acts Whole HasConnectionFacts

abbrev pub ConnectionFactsBegin : Type 0
ConnectionFactsBegin = BeginsWith HasConnectionFacts

-- No connection waits for what an answer makes due.
abbrev pub HasConnectionsPlainly : Step → Type 0
HasConnectionsPlainly x = ConnectionFacts x.setting (seen x) None

abbrev pub ConnectionFactsConclude : Type 0
ConnectionFactsConclude = Concludes Whole (λ x. Whole x × HasConnectionsPlainly x) HasConnectionsPlainly

-- ---- connections to the watchdog daemon

-- What the moves of the entry say is kept.
abbrev pub MovesAreKept : Type 0
MovesAreKept = Acts (λ x. Whole x × MovedSoFar x) MovedSoFar

abbrev pub MovesBegin : Type 0
MovesBegin = BeginsWith MovedSoFar

-- The law of the watchdog, of the entry so far.
abbrev pub WatchdogSoFar : Step → Type 0
WatchdogSoFar x = LawfulWatchdog x.setting x.past (entry_of x)

-- It follows at each moment of a step.
abbrev pub WatchdogIsLawful : Type 0
WatchdogIsLawful = (x : Step) → HasConnectionFacts x → HoldingFacts x.setting (seen x) (heard_by x.input) → MovedSoFar x → WatchdogSoFar x
