-- What is kept over blocks and leaders, after each lawful run.
use Rattle.sl_id_safety.specs.Interface.{OfEachRun}
use Rattle.sl_run.specs.Safety.{Agreement, OneWinner, SharedModeStands, world_at}

-- All ballots of a resource's instance that end, end with one session.
abbrev pub BallotsAgree : Type 0
BallotsAgree = OfEachRun (λ p h xs. Agreement (world_at p h xs))

-- At most one session ends a ballot of it with itself.
abbrev pub OneWins : Type 0
OneWins = OfEachRun (λ p h xs. OneWinner (world_at p h xs))

-- The mode of a shared holder that is not over stands in its host's block.
abbrev pub SharedModesStand : Type 0
SharedModesStand = OfEachRun (λ p h xs. SharedModeStands (world_at p h xs))
