-- Host 1 frees instance 1 and only then marks its block: host 2 is granted exclusive under instance 2 before, and host 1 shared after.
use Rattle.sl_ballot_law.specs.Ballots.{IsLawful}
use Rattle.sl_ballot_law.specs.Grants.{Grants, KeepsGrants, LooksAfterBegun}
use Rattle.sl_ballot_law.specs.History.{History, Leader}
use Rattle.sl_ballot_law.specs.Instances.{KeepsInstances}
use Rattle.sl_examples.specs.Ballots.MadeHistories.{Read, Write, give_up, lasting, made, marked, one, plain, read, two, write}
use Rattle.sl_words.specs.Tables.{Row}
use Rattle.std.specs.Prelude.{List, nat_le, true, [], ◌&&◌, ◌==◌, ◌∷◌, ◌≡◌}

abbrev pub writes : List (Row Write)
writes = write 5 one (plain 1 1 0 one) 0 6
    ∷ write 9 one (plain 1 1 1 one) 5 10
    ∷ write 17 two (plain 2 2 0 two) 0 18
    ∷ write 21 two (plain 2 2 2 two) 17 22
    ∷ write 27 one (marked 1 1 1 one) 9 28
    ∷ []

abbrev pub reads : List (Row Read)
reads = read 3 one 4 0 0
    ∷ read 7 one 8 5 0
    ∷ read 11 one 12 9 0
    ∷ read 15 two 16 9 0
    ∷ read 19 two 20 9 17
    ∷ read 23 two 24 9 21
    ∷ []

abbrev pub leads : List (Row Leader)
leads = give_up 13 1 one ∷ give_up 29 1 one ∷ []

abbrev pub history : History
history = made lasting writes reads leads

-- Host 2 holds exclusive from step 25 on, host 1 shared from step 31 on.
abbrev pub grants : Grants
grants = record {
  exclusive = λ g. g == 25;
  holder = λ g. two;
  instance = λ g. 2;
  look = λ g. 19;
  holds = λ g t. nat_le 25 t && g == 25;
  shared = λ g. g == 31;
  sharer = λ g. one;
  won = λ g. 1;
  mark = λ g. 27;
  shares = λ g t. nat_le 31 t && g == 31;
}

-- Counterexample: all that is asked holds but `FreesAfterMark`, and a session holds exclusive beside another that holds shared.
pub record FreedFirstBreaks : Type 0 where
  pub lawful : IsLawful history
  pub instances : KeepsInstances history
  pub rules : KeepsGrants history grants
  pub looks : LooksAfterBegun history grants
  pub exclusive : grants.holds 25 32 ≡ true
  pub shared : grants.shares 31 32 ≡ true
  pub apart : grants.holder 25 ≡ grants.sharer 31 → ⊥
