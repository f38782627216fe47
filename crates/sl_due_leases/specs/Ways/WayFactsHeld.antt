-- What is kept of leases by each act: of the step as it stands.
use Rattle.sl_due.specs.Steps.{Step, seen}
use Rattle.sl_due_facts.specs.Facts.GrantGrounds.{GrantGrounds}
use Rattle.sl_due_facts.specs.Facts.HeardCall.{heard_by}
use Rattle.sl_due_facts.specs.Facts.LeaseFacts.{NumberFacts, TurnFacts}
use Rattle.sl_due_facts.specs.Facts.WayFacts.{WayFacts}

abbrev pub HasWayFacts : Step → Type 0
HasWayFacts x = WayFacts x.setting (seen x)

abbrev pub HasTurnFacts : Step → Type 0
HasTurnFacts x = TurnFacts x.setting (seen x) (heard_by x.input)

abbrev pub HasNumberFacts : Step → Type 0
HasNumberFacts x = NumberFacts x.setting (seen x)

abbrev pub HasGrantGrounds : Step → Type 0
HasGrantGrounds x = GrantGrounds x.setting (seen x) (heard_by x.input)

-- Ways and turns are kept together.
pub record LeasesStand (x : Step) : Type 0 where
  pub ways : HasWayFacts x
  pub turns : HasTurnFacts x
