-- Host 1 wins instance 1, holds exclusive and frees it; then host 2 wins instance 2 and holds shared. Host 2's first read, in which it
-- finds its own block, shows the block of host 1 torn.
use Rattle.sl_ballot_law.specs.Ballots.{IsLawful}
use Rattle.sl_ballot_law.specs.Grants.{Grants, IsGranted}
use Rattle.sl_ballot_law.specs.History.{History, Leader}
use Rattle.sl_ballot_law.specs.Instances.{KeepsInstances}
use Rattle.sl_examples.specs.Ballots.MadeHistories.{Read, Write, give_up, lasting, made, marked, one, plain, read, take, torn_read, two, write}
use Rattle.sl_words.specs.Tables.{Row}
use Rattle.std.specs.Prelude.{List, nat_le, nat_lt, true, [], ◌&&◌, ◌==◌, ◌∷◌, ◌≡◌}

abbrev pub writes : List (Row Write)
writes = write 5 one (plain 1 1 0 one) 0 6
    ∷ write 9 one (plain 1 1 1 one) 5 10
    ∷ write 23 two (plain 2 2 0 two) 0 24
    ∷ write 27 two (plain 2 2 2 two) 23 28
    ∷ write 31 two (marked 2 2 2 two) 27 32
    ∷ []

abbrev pub reads : List (Row Read)
reads = read 3 one 4 0 0
    ∷ read 7 one 8 5 0
    ∷ read 11 one 12 9 0
    ∷ torn_read 21 two 22 9 0 1
    ∷ read 25 two 26 9 23
    ∷ read 29 two 30 9 27
    ∷ []

abbrev pub leads : List (Row Leader)
leads = take 13 1 one ∷ give_up 20 1 one ∷ give_up 33 2 two ∷ []

abbrev pub history : History
history = made lasting writes reads leads

-- The exclusive holding stands from step 15 to step 19, the shared one from step 35 on.
abbrev pub grants : Grants
grants = record {
  exclusive = λ g. g == 15;
  holder = λ g. one;
  instance = λ g. 1;
  look = λ g. 7;
  holds = λ g t. nat_le 15 t && nat_lt t 20 && g == 15;
  shared = λ g. g == 35;
  sharer = λ g. two;
  won = λ g. 2;
  mark = λ g. 31;
  shares = λ g t. nat_le 35 t && g == 35;
}

-- Witness: all that is asked holds, one session holds exclusive at a step, and another holds shared later.
pub record SomeAreGranted : Type 0 where
  pub lawful : IsLawful history
  pub instances : KeepsInstances history
  pub granted : IsGranted history grants
  pub exclusive : grants.holds 15 16 ≡ true
  pub shared : grants.shares 35 36 ≡ true
