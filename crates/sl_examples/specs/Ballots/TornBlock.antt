-- Host 1 won instance 1, and a later write of its block was torn: a host that passes over the torn block, as if it were that of a host
-- that never wrote, sees nothing of what it accepted, and wins the instance too.
use Rattle.sl_ballot_law.specs.Ballots.{GoesUp, KeepsBallots, NumbersArePositive}
use Rattle.sl_ballot_law.specs.Disk.{IsRegister}
use Rattle.sl_ballot_law.specs.History.{History, Leader}
use Rattle.sl_ballot_law.specs.Instances.{KeepsInstances}
use Rattle.sl_ballot_law.specs.Sessions.{EarlierAreOver, SessionsInOrder}
use Rattle.sl_examples.specs.Ballots.TwoWinners.{TwoWin}
use Rattle.sl_examples.specs.Ballots.MadeHistories.{Read, Write, lasting, lost_write, made, marked, one, plain, read, two, write}
use Rattle.sl_words.specs.Tables.{Row}
use Rattle.std.specs.Prelude.{List, [], ◌∷◌}

abbrev pub writes : List (Row Write)
writes = write 5 one (plain 1 1 0 one) 0 6
    ∷ write 9 one (plain 1 1 1 one) 5 10
    ∷ lost_write 13 one (marked 1 1 1 one) 9
    ∷ write 17 two (plain 1 2 0 two) 0 18
    ∷ write 21 two (plain 1 2 2 two) 17 22
    ∷ []

abbrev pub reads : List (Row Read)
reads = read 3 one 4 0 0
    ∷ read 7 one 8 5 0
    ∷ read 11 one 12 9 0
    ∷ read 15 two 16 0 0
    ∷ read 19 two 20 0 17
    ∷ read 23 two 24 0 21
    ∷ []

abbrev pub leads : List (Row Leader)
leads = []

abbrev pub history : History
history = made lasting writes reads leads

-- Counterexample: all of `IsLawful` holds but `ShowsNewest`, which no torn block can keep that counts as a shown one.
pub record TornBreaks : Type 0 where
  pub register : IsRegister history
  pub sessions : SessionsInOrder history
  pub earlier : EarlierAreOver history
  pub ballots : KeepsBallots history
  pub up : GoesUp history
  pub numbers : NumbersArePositive history
  pub instances : KeepsInstances history
  pub fails : TwoWin history 1 24 one two
