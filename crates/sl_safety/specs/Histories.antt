-- The history of each resource of a lawful run keeps all rules of the argument over ballots.
use Rattle.sl_ballot_law.specs.Ballots.{IsLawful}
use Rattle.sl_ballot_law.specs.Instances.{KeepsInstances}
use Rattle.sl_safety.specs.Sessions.SessionLaws.{OfHistories}

abbrev pub HistoriesAreLawful : Type 0
HistoriesAreLawful = OfHistories IsLawful

-- .. and of the order of instances.
abbrev pub HistoriesKeepInstances : Type 0
HistoriesKeepInstances = OfHistories KeepsInstances
