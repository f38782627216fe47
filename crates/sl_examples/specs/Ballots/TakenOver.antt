-- Host 1 holds exclusive and is reset; host 2 has evidence, wins instance 2 and holds exclusive; then a second session of host 1 joins,
-- goes on from the block that a read shows of its host, and its ballot of instance 2 ends with host 2's session.
use Rattle.sl_ballot_law.specs.Ballots.{BallotEnded, IsLawful}
use Rattle.sl_ballot_law.specs.Grants.{Grants, IsGranted}
use Rattle.sl_ballot_law.specs.History.{History, Leader, Owner}
use Rattle.sl_ballot_law.specs.Instances.{KeepsInstances}
use Rattle.sl_examples.specs.Ballots.MadeHistories.{Lives, Read, Write, joins, made, one, plain, read, take, two, write}
use Rattle.sl_words.specs.Tables.{Row}
use Rattle.std.specs.Prelude.{List, Some, false, if◌then◌else◌, nat_le, nat_lt, true, [], ◌&&◌, ◌==◌, ◌||◌, ◌∷◌, ◌≡◌}

-- Host 1's second session.
abbrev pub again : Owner
again = record { id = 1; generation = 2 }

-- The first session of host 1 is over from step 20 on, and there is evidence of it from step 24 on; its second session joins at step 40.
abbrev pub lives : Lives
lives = record {
  joined = λ s. if s.id == 1 && s.generation == 2 then Some 40 else joins s;
  over = λ s t. nat_le 20 t && (s.id == 1 && s.generation == 1);
  evidence = λ o s t. nat_le 24 t && (s.id == 1 && s.generation == 1);
}

abbrev pub writes : List (Row Write)
writes = write 5 one (plain 1 1 0 one) 0 6
    ∷ write 9 one (plain 1 1 1 one) 5 10
    ∷ write 27 two (plain 2 2 0 two) 0 28
    ∷ write 31 two (plain 2 2 2 two) 27 32
    ∷ write 43 again (plain 2 3 0 again) 9 44
    ∷ write 47 again (plain 2 3 3 two) 43 48
    ∷ []

abbrev pub reads : List (Row Read)
reads = read 3 one 4 0 0
    ∷ read 7 one 8 5 0
    ∷ read 11 one 12 9 0
    ∷ read 25 two 26 9 0
    ∷ read 29 two 30 9 27
    ∷ read 33 two 34 9 31
    ∷ read 41 again 42 9 31
    ∷ read 45 again 46 43 31
    ∷ read 49 again 50 47 31
    ∷ []

abbrev pub leads : List (Row Leader)
leads = take 13 1 one ∷ take 35 2 two ∷ []

abbrev pub history : History
history = made lives writes reads leads

-- Host 1 holds from step 15 to step 19, host 2 from step 37 on.
abbrev pub grants : Grants
grants = record {
  exclusive = λ g. g == 15 || g == 37;
  holder = λ g. if g == 15 then one else two;
  instance = λ g. if g == 15 then 1 else 2;
  look = λ g. if g == 15 then 7 else 29;
  holds = λ g t. nat_le 15 t && nat_lt t 20 && g == 15 || nat_le 37 t && g == 37;
  shared = λ g. false;
  sharer = λ g. one;
  won = λ g. 0;
  mark = λ g. 0;
  shares = λ g t. false;
}

-- Witness: all that is asked holds, and the lease passes from a session that is over to another.
pub record SomeIsTakenOver : Type 0 where
  pub lawful : IsLawful history
  pub instances : KeepsInstances history
  pub granted : IsGranted history grants
  pub before : grants.holds 15 16 ≡ true
  pub over : history.over one 20 ≡ true
  pub after : grants.holds 37 38 ≡ true
  pub settled : BallotEnded history again 2 two 50
