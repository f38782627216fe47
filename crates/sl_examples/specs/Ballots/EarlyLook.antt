-- Host 2 looks at the blocks before host 1 marks its own and frees instance 1; then it begins instance 2, wins it, and is granted
-- exclusive by its early look, beside host 1, which holds shared.
use Rattle.sl_ballot_law.specs.Ballots.{IsLawful}
use Rattle.sl_ballot_law.specs.Grants.{FreesAfterMark, Grants, KeepsGrants}
use Rattle.sl_ballot_law.specs.History.{History, Leader}
use Rattle.sl_ballot_law.specs.Instances.{KeepsInstances}
use Rattle.sl_examples.specs.Ballots.MadeHistories.{Read, Write, give_up, lasting, made, marked, one, plain, read, two, write}
use Rattle.sl_words.specs.Tables.{Row}
use Rattle.std.specs.Prelude.{List, nat_le, true, [], ◌&&◌, ◌==◌, ◌∷◌, ◌≡◌}

abbrev pub writes : List (Row Write)
writes = write 5 one (plain 1 1 0 one) 0 6
    ∷ write 9 one (plain 1 1 1 one) 5 10
    ∷ write 15 one (marked 1 1 1 one) 9 16
    ∷ write 21 two (plain 2 2 0 two) 0 22
    ∷ write 25 two (plain 2 2 2 two) 21 26
    ∷ []

abbrev pub reads : List (Row Read)
reads = read 3 one 4 0 0
    ∷ read 7 one 8 5 0
    ∷ read 11 one 12 9 0
    ∷ read 13 two 14 9 0
    ∷ read 23 two 24 15 21
    ∷ read 27 two 28 15 25
    ∷ []

abbrev pub leads : List (Row Leader)
leads = give_up 17 1 one ∷ []

abbrev pub history : History
history = made lasting writes reads leads

-- Host 1 holds shared from step 19 on, host 2 exclusive from step 29 on.
abbrev pub grants : Grants
grants = record {
  exclusive = λ g. g == 29;
  holder = λ g. two;
  instance = λ g. 2;
  look = λ g. 13;
  holds = λ g t. nat_le 29 t && g == 29;
  shared = λ g. g == 19;
  sharer = λ g. one;
  won = λ g. 1;
  mark = λ g. 15;
  shares = λ g t. nat_le 19 t && g == 19;
}

-- Counterexample: all that is asked holds but `LooksAfterBegun`, and a session holds exclusive beside another that holds shared.
pub record EarlyLookBreaks : Type 0 where
  pub lawful : IsLawful history
  pub instances : KeepsInstances history
  pub rules : KeepsGrants history grants
  pub marks : FreesAfterMark history grants
  pub exclusive : grants.holds 29 30 ≡ true
  pub shared : grants.shares 19 30 ≡ true
  pub apart : grants.holder 29 ≡ grants.sharer 19 → ⊥
