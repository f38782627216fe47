-- A write of host 1 that was left in flight lands over its later one: reads show the older block, and two ballots of instance 1 end with
-- two sessions.
use Rattle.sl_ballot_law.specs.Ballots.{GoesUp, KeepsBallots, NumbersArePositive}
use Rattle.sl_ballot_law.specs.Disk.{IsRegister}
use Rattle.sl_ballot_law.specs.History.{History, Leader}
use Rattle.sl_ballot_law.specs.Instances.{KeepsInstances}
use Rattle.sl_ballot_law.specs.Sessions.{EarlierAreOver, SessionsInOrder}
use Rattle.sl_examples.specs.Ballots.TwoWinners.{TwoWin}
use Rattle.sl_examples.specs.Ballots.MadeHistories.{Read, Write, lasting, lost_write, made, one, plain, read, two, write}
use Rattle.sl_words.specs.Tables.{Row}
use Rattle.std.specs.Prelude.{List, [], ◌∷◌}

abbrev pub writes : List (Row Write)
writes = lost_write 5 one (plain 1 1 0 one) 0
    ∷ write 7 one (plain 1 3 0 one) 5 8
    ∷ write 11 one (plain 1 3 3 one) 7 12
    ∷ write 17 two (plain 1 4 0 two) 0 18
    ∷ write 21 two (plain 1 4 4 two) 17 22
    ∷ []

abbrev pub reads : List (Row Read)
reads = read 3 one 4 0 0
    ∷ read 9 one 10 7 0
    ∷ read 13 one 14 11 0
    ∷ read 15 two 16 5 0
    ∷ read 19 two 20 5 17
    ∷ read 23 two 24 5 21
    ∷ []

abbrev pub leads : List (Row Leader)
leads = []

abbrev pub history : History
history = made lasting writes reads leads

-- Counterexample: all of `IsLawful` holds but `ShowsNewest`.
pub record OverlapBreaks : Type 0 where
  pub register : IsRegister history
  pub sessions : SessionsInOrder history
  pub earlier : EarlierAreOver history
  pub ballots : KeepsBallots history
  pub up : GoesUp history
  pub numbers : NumbersArePositive history
  pub instances : KeepsInstances history
  pub fails : TwoWin history 1 24 one two
