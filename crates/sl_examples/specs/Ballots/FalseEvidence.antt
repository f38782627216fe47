-- Host 2 has evidence against host 1's session, which is alive and holds exclusive under instance 1: so host 2 begins instance 2, wins
-- it, and holds exclusive too.
use Rattle.sl_ballot_law.specs.Ballots.{IsLawful}
use Rattle.sl_ballot_law.specs.Grants.{Grants, IsGranted}
use Rattle.sl_ballot_law.specs.History.{History, Leader}
use Rattle.sl_ballot_law.specs.Instances.{LeadersHaveWon}
use Rattle.sl_examples.specs.Ballots.MadeHistories.{Lives, Read, Write, joins, made, one, plain, read, take, two, write}
use Rattle.sl_words.specs.Tables.{Row}
use Rattle.std.specs.Prelude.{List, false, if◌then◌else◌, nat_le, true, [], ◌&&◌, ◌==◌, ◌||◌, ◌∷◌, ◌≡◌}

-- Nobody is over, and there is evidence against host 1's session from step 16 on.
abbrev pub lives : Lives
lives = record { joined = joins; over = λ s t. false; evidence = λ o s t. nat_le 16 t && (s.id == 1 && s.generation == 1) }

abbrev pub writes : List (Row Write)
writes = write 5 one (plain 1 1 0 one) 0 6
    ∷ write 9 one (plain 1 1 1 one) 5 10
    ∷ write 19 two (plain 2 2 0 two) 0 20
    ∷ write 23 two (plain 2 2 2 two) 19 24
    ∷ []

abbrev pub reads : List (Row Read)
reads = read 3 one 4 0 0
    ∷ read 7 one 8 5 0
    ∷ read 11 one 12 9 0
    ∷ read 17 two 18 9 0
    ∷ read 21 two 22 9 19
    ∷ read 25 two 26 9 23
    ∷ []

abbrev pub leads : List (Row Leader)
leads = take 13 1 one ∷ take 27 2 two ∷ []

abbrev pub history : History
history = made lives writes reads leads

-- Host 1 holds from step 15 on, host 2 from step 29 on.
abbrev pub grants : Grants
grants = record {
  exclusive = λ g. g == 15 || g == 29;
  holder = λ g. if g == 15 then one else two;
  instance = λ g. if g == 15 then 1 else 2;
  look = λ g. if g == 15 then 7 else 21;
  holds = λ g t. nat_le 15 t && g == 15 || nat_le 29 t && g == 29;
  shared = λ g. false;
  sharer = λ g. one;
  won = λ g. 0;
  mark = λ g. 0;
  shares = λ g t. false;
}

-- Counterexample: all that is asked holds but `EvidenceMeansOver`, and two sessions hold exclusive.
pub record FalseEvidenceBreaks : Type 0 where
  pub lawful : IsLawful history
  pub leaders : LeadersHaveWon history
  pub granted : IsGranted history grants
  pub first : grants.holds 15 30 ≡ true
  pub second : grants.holds 29 30 ≡ true
  pub apart : grants.holder 15 ≡ grants.holder 29 → ⊥
