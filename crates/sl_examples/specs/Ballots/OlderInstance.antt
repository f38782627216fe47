-- Host 2 won instance 2, and then, by a leader that it read long ago, begins instance 1 and writes over its block of instance 2: host 1
-- sees no value in instance 2, and wins it too.
use Rattle.sl_ballot_law.specs.Ballots.{KeepsBallots, NumbersArePositive}
use Rattle.sl_ballot_law.specs.Disk.{IsRegister, ShowsNewest}
use Rattle.sl_ballot_law.specs.History.{History, Leader}
use Rattle.sl_ballot_law.specs.Instances.{KeepsInstances}
use Rattle.sl_ballot_law.specs.Sessions.{EarlierAreOver, SessionsInOrder}
use Rattle.sl_examples.specs.Ballots.TwoWinners.{TwoWin}
use Rattle.sl_examples.specs.Ballots.MadeHistories.{Read, Write, give_up, lasting, made, one, plain, read, two, write}
use Rattle.sl_words.specs.Tables.{Row}
use Rattle.std.specs.Prelude.{List, [], ◌∷◌}

abbrev pub writes : List (Row Write)
writes = write 5 one (plain 1 1 0 one) 0 6
    ∷ write 9 one (plain 1 1 1 one) 5 10
    ∷ write 17 two (plain 2 2 0 two) 0 18
    ∷ write 21 two (plain 2 2 2 two) 17 22
    ∷ write 25 two (plain 1 4 0 two) 21 26
    ∷ write 27 one (plain 2 3 0 one) 9 28
    ∷ write 31 one (plain 2 3 3 one) 27 32
    ∷ []

abbrev pub reads : List (Row Read)
reads = read 3 one 4 0 0
    ∷ read 7 one 8 5 0
    ∷ read 11 one 12 9 0
    ∷ read 15 two 16 9 0
    ∷ read 19 two 20 9 17
    ∷ read 23 two 24 9 21
    ∷ read 29 one 30 27 25
    ∷ read 33 one 34 31 25
    ∷ []

abbrev pub leads : List (Row Leader)
leads = give_up 13 1 one ∷ []

abbrev pub history : History
history = made lasting writes reads leads

-- Counterexample: all of `IsLawful` holds but `GoesUp`.
pub record LowerBreaks : Type 0 where
  pub register : IsRegister history
  pub newest : ShowsNewest history
  pub sessions : SessionsInOrder history
  pub earlier : EarlierAreOver history
  pub ballots : KeepsBallots history
  pub numbers : NumbersArePositive history
  pub instances : KeepsInstances history
  pub fails : TwoWin history 2 34 one two
