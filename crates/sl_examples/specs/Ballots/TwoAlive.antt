-- Two sessions of host 1 are alive at once, and share its block: the second, which read the blocks before the first wrote, writes over what
-- the first accepted, and both win instance 1.
use Rattle.sl_ballot_law.specs.Ballots.{GoesUp, KeepsBallots, NumbersArePositive}
use Rattle.sl_ballot_law.specs.Disk.{IsRegister, ShowsNewest}
use Rattle.sl_ballot_law.specs.History.{History, Leader, Owner}
use Rattle.sl_ballot_law.specs.Instances.{KeepsInstances}
use Rattle.sl_ballot_law.specs.Sessions.{SessionsInOrder}
use Rattle.sl_examples.specs.Ballots.TwoWinners.{TwoWin}
use Rattle.sl_examples.specs.Ballots.MadeHistories.{Lives, Read, Write, joins, made, one, plain, read, write}
use Rattle.sl_words.specs.Tables.{Row}
use Rattle.std.specs.Prelude.{List, Some, false, if◌then◌else◌, [], ◌&&◌, ◌==◌, ◌∷◌}

-- Host 1's second session.
abbrev pub again : Owner
again = record { id = 1; generation = 2 }

-- It joins at step 2, and neither is ever over.
abbrev pub lives : Lives
lives = record { joined = λ s. if s.id == 1 && s.generation == 2 then Some 2 else joins s; over = λ s t. false; evidence = λ o s t. false }

abbrev pub writes : List (Row Write)
writes = write 7 one (plain 1 1 0 one) 0 8
    ∷ write 11 one (plain 1 1 1 one) 7 12
    ∷ write 15 again (plain 1 3 0 again) 0 16
    ∷ write 19 again (plain 1 3 3 again) 15 20
    ∷ []

abbrev pub reads : List (Row Read)
reads = read 3 one 5 0 0
    ∷ read 4 again 6 0 0
    ∷ read 9 one 10 7 0
    ∷ read 13 one 14 11 0
    ∷ read 17 again 18 15 0
    ∷ read 21 again 22 19 0
    ∷ []

abbrev pub leads : List (Row Leader)
leads = []

abbrev pub history : History
history = made lives writes reads leads

-- Counterexample: all of `IsLawful` holds but `EarlierAreOver`.
pub record TwoAliveBreak : Type 0 where
  pub register : IsRegister history
  pub newest : ShowsNewest history
  pub sessions : SessionsInOrder history
  pub ballots : KeepsBallots history
  pub up : GoesUp history
  pub numbers : NumbersArePositive history
  pub instances : KeepsInstances history
  pub fails : TwoWin history 1 22 one again
