-- Host 2 runs a ballot of number 0: what it accepts counts as nothing accepted, and host 1 wins the instance too.
use Rattle.sl_ballot_law.specs.Ballots.{GoesUp, KeepsBallots}
use Rattle.sl_ballot_law.specs.Disk.{IsRegister, ShowsNewest}
use Rattle.sl_ballot_law.specs.History.{History, Leader}
use Rattle.sl_ballot_law.specs.Instances.{KeepsInstances}
use Rattle.sl_ballot_law.specs.Sessions.{EarlierAreOver, SessionsInOrder}
use Rattle.sl_examples.specs.Ballots.TwoWinners.{TwoWin}
use Rattle.sl_examples.specs.Ballots.MadeHistories.{Read, Write, lasting, made, one, plain, read, two, write}
use Rattle.sl_words.specs.Tables.{Row}
use Rattle.std.specs.Prelude.{List, [], ◌∷◌}

abbrev pub writes : List (Row Write)
writes = write 5 two (plain 1 0 0 two) 0 6
    ∷ write 9 two (plain 1 0 0 two) 5 10
    ∷ write 15 one (plain 1 1 0 one) 0 16
    ∷ write 19 one (plain 1 1 1 one) 15 20
    ∷ []

abbrev pub reads : List (Row Read)
reads = read 3 two 4 0 0
    ∷ read 7 two 8 0 5
    ∷ read 11 two 12 0 9
    ∷ read 13 one 14 0 9
    ∷ read 17 one 18 15 9
    ∷ read 21 one 22 19 9
    ∷ []

abbrev pub leads : List (Row Leader)
leads = []

abbrev pub history : History
history = made lasting writes reads leads

-- Counterexample: all of `IsLawful` holds but `NumbersArePositive`.
pub record ZeroBreaks : Type 0 where
  pub register : IsRegister history
  pub newest : ShowsNewest history
  pub sessions : SessionsInOrder history
  pub earlier : EarlierAreOver history
  pub ballots : KeepsBallots history
  pub up : GoesUp history
  pub instances : KeepsInstances history
  pub fails : TwoWin history 1 22 one two
