-- What is kept of reads of values, and what is lawful of values.
use Rattle.sl_due_facts.specs.Acts.Acts.{Acts}
use Rattle.sl_due_facts.specs.Acts.TraceSoFar.{entry_of}
use Rattle.sl_due.specs.Steps.{Step, seen}
use Rattle.sl_due_leases.specs.Holdings.Moments.{Known}
use Rattle.sl_due_leases.specs.Holdings.HoldingLaws.{Begins}
use Rattle.sl_run.specs.LawfulValue.{LawfulValue}
use Rattle.sl_due_facts.specs.Facts.HeardCall.{heard_by}
use Rattle.sl_due_facts.specs.Facts.ValueFacts.{ValueFacts}

abbrev pub HasValueFacts : Step → Type 0
HasValueFacts x = ValueFacts x.setting (seen x) (heard_by x.input)

abbrev pub ValueFactsAreKept : Type 0
ValueFactsAreKept = Acts Known HasValueFacts

abbrev pub ValueFactsBegin : Type 0
ValueFactsBegin = Begins HasValueFacts

-- ---- what is written, read and told

abbrev pub ValuesSoFar : Step → Type 0
ValuesSoFar x = LawfulValue x.setting x.past (entry_of x)

abbrev pub ValuesAreLawful : Type 0
ValuesAreLawful = Acts Known ValuesSoFar

abbrev pub ValuesBegin : Type 0
ValuesBegin = Begins ValuesSoFar
