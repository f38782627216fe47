-- What is kept by each act of a step, and true once a step has begun: what is known of the names of sessions, of their joinings and of their
-- delta records.
use Rattle.sl_due_facts.specs.Acts.Acts.{Acts}
use Rattle.sl_due.specs.Steps.{Step, seen}
use Rattle.sl_due_facts.specs.Jobs.JobLaws.{BeginsWith}
use Rattle.sl_due_facts.specs.Facts.ConcludingActs.{Concludes}
use Rattle.sl_due_facts.specs.Facts.HeardCall.{heard_by}
use Rattle.sl_due_facts.specs.Facts.SessionFacts.{DeltaFacts, NameFacts}
use Rattle.sl_due_facts.specs.Facts.AllFacts.{Whole}
use Rattle.std.specs.Prelude.{None}

abbrev pub HasNameFacts : Step → Type 0
HasNameFacts x = NameFacts x.setting (seen x) (heard_by x.input)

abbrev pub NameFactsAreKept : Type 0
NameFactsAreKept = Acts Whole HasNameFacts

abbrev pub NameFactsBegin : Type 0
NameFactsBegin = BeginsWith HasNameFacts

-- No joining waits for what an answer makes due.
abbrev pub HasNamesPlainly : Step → Type 0
HasNamesPlainly x = NameFacts x.setting (seen x) None

abbrev pub NameFactsConclude : Type 0
NameFactsConclude = Concludes Whole (λ x. Whole x × HasNamesPlainly x) HasNamesPlainly

-- ---- delta records

abbrev pub HasDeltaFacts : Step → Type 0
HasDeltaFacts x = DeltaFacts x.setting (seen x)

abbrev pub DeltaFactsAreKept : Type 0
DeltaFactsAreKept = Acts Whole HasDeltaFacts

abbrev pub DeltaFactsBegin : Type 0
DeltaFactsBegin = BeginsWith HasDeltaFacts
