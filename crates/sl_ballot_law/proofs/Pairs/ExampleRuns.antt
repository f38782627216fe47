-- The runs of the examples, state by state.
use Rattle.sl_ballot_law.specs.Pairs.Examples.{Begins_early, CountedLateFails, IsRunWith, Lands_late, OneAnswerFails, OverlapFails, Overlaps, SameSectorFails, SecondAloneFails, SomeAreRead, SomeFallsBack, SomeIsTorn, SubmitsUnseen, TearsKnown, UnseenTurnFails}
use Rattle.sl_ballot_law.specs.Pairs.State.{State}
use Rattle.sl_ballot_law.specs.Pairs.Steps.{Answers_failed, Answers_ok, Begins, IsRun, Lands, Looks, Stays, Step, Submits, Tears, after_beginning, after_failure, after_landing, after_look, after_ok, after_submission, after_tearing, first_state}
use Rattle.std.proofs.Common.{List, None, Some, arith, false, inl, inr, refl, subst, suc, sym, zero, [], ℕ, ◌+◌, ◌∷◌, ◌≡◌, ◌⊎◌}

-- ---- runs from lists

-- The states one after another; the last one stays.
abbrev state_at : State → List State → ℕ → State
state_at w xs zero = w
state_at w [] (suc m) = w
state_at w (x ∷ xs) (suc m) = state_at x xs m

abbrev Chain : (State → State → Type 0) → State → List State → Type 0
Chain S w [] = Unit {0}
Chain S w (x ∷ xs) = S w x × Chain S x xs

still : (w : State) (m : ℕ) → state_at w [] m ≡ w
still w zero = refl
still w (suc m) = refl

chained : (S : State → State → Type 0) → ((w : State) → S w w) → (w : State) (xs : List State) → Chain S w xs → (m : ℕ)
    → S (state_at w xs m) (state_at w xs (m + 1))
chained S same w [] c zero = same w
chained S same w [] c (suc m) = subst (λ (x : State). S w x) (sym (still w (suc m + 1))) (same w)
chained S same w (x ∷ xs) c zero = c.0
chained S same w (x ∷ xs) c (suc m) =
    subst (λ (n : ℕ). S (state_at x xs m) (state_at w (x ∷ xs) n)) (two m) (chained S same x xs c.1 m)
  where
    two : (m : ℕ) → suc (m + 1) ≡ suc m + 1
    two m = omega arith

made : (xs : List State) → Chain Step first_state xs → IsRun (state_at first_state xs)
made xs c = record { start = refl; step = chained Step (λ w. Stays refl) first_state xs c }

abbrev Either : (State → State → Type 0) → State → State → Type 0
Either S w v = Step w v ⊎ S w v

made_with : (S : State → State → Type 0) (xs : List State) → Chain (Either S) first_state xs → IsRunWith S (state_at first_state xs)
made_with S xs c = record { start = refl; step = chained (Either S) (λ w. inl (Stays refl)) first_state xs c }

-- ---- a session that is torn and ends, and a later one that goes on, twice with a torn write

abbrev s1 : State
s1 = after_look 2 first_state

abbrev s2 : State
s2 = after_submission 1 s1

abbrev s3 : State
s3 = after_landing s2

abbrev s4 : State
s4 = after_ok s3

abbrev s5 : State
s5 = after_submission 2 s4

abbrev s6 : State
s6 = after_tearing s5

abbrev s7 : State
s7 = after_beginning s6

abbrev s8 : State
s8 = after_look 3 s7

abbrev s9 : State
s9 = after_submission 3 s8

abbrev s10 : State
s10 = after_landing s9

abbrev s11 : State
s11 = after_ok s10

abbrev s12 : State
s12 = after_submission 4 s11

abbrev s13 : State
s13 = after_landing s12

abbrev s14 : State
s14 = after_ok s13

abbrev s15 : State
s15 = after_submission 5 s14

abbrev s16 : State
s16 = after_tearing s15

abbrev s17 : State
s17 = after_failure s16

abbrev s18 : State
s18 = after_submission 6 s17

abbrev s19 : State
s19 = after_landing s18

abbrev s20 : State
s20 = after_ok s19

abbrev s21 : State
s21 = after_submission 7 s20

abbrev s22 : State
s22 = after_tearing s21

abbrev s23 : State
s23 = after_failure s22

abbrev s24 : State
s24 = after_submission 8 s23

abbrev s25 : State
s25 = after_landing s24

abbrev s26 : State
s26 = after_ok s25

abbrev s27 : State
s27 = after_submission 9 s26

abbrev s28 : State
s28 = after_tearing s27

abbrev states : List State
states = s1 ∷ s2 ∷ s3 ∷ s4 ∷ s5 ∷ s6 ∷ s7 ∷ s8 ∷ s9 ∷ s10 ∷ s11 ∷ s12 ∷ s13 ∷ s14 ∷ s15 ∷ s16 ∷ s17 ∷ s18 ∷ s19 ∷ s20 ∷ s21 ∷ s22 ∷ s23 ∷ s24 ∷ s25 ∷ s26 ∷ s27 ∷ s28 ∷ []

abbrev run : ℕ → State
run = state_at first_state states

is_run : IsRun run
is_run = made states (
  Looks refl refl (record { turn = 2; write = 0 }) refl refl,
  (
    Submits 1 refl refl (omega arith) refl,
    (
      Lands refl refl,
      (
        Answers_ok refl refl refl,
        (
          Submits 2 refl refl (omega arith) refl,
          (
            Tears refl refl,
            (
              Begins refl refl,
              (
                Looks refl refl (record { turn = 3; write = 1 }) refl refl,
                (
                  Submits 3 refl refl (omega arith) refl,
                  (
                    Lands refl refl,
                    (
                      Answers_ok refl refl refl,
                      (
                        Submits 4 refl refl (omega arith) refl,
                        (
                          Lands refl refl,
                          (
                            Answers_ok refl refl refl,
                            (
                              Submits 5 refl refl (omega arith) refl,
                              (
                                Tears refl refl,
                                (
                                  Answers_failed refl refl,
                                  (
                                    Submits 6 refl refl (omega arith) refl,
                                    (
                                      Lands refl refl,
                                      (
                                        Answers_ok refl refl refl,
                                        (
                                          Submits 7 refl refl (omega arith) refl,
                                          (
                                            Tears refl refl,
                                            (
                                              Answers_failed refl refl,
                                              (
                                                Submits 8 refl refl (omega arith) refl,
                                                (
                                                  Lands refl refl,
                                                  (
                                                    Answers_ok refl refl refl,
                                                    (Submits 9 refl refl (omega arith) refl, (Tears refl refl, tt)),
                                                  ),
                                                ),
                                              ),
                                            ),
                                          ),
                                        ),
                                      ),
                                    ),
                                  ),
                                ),
                              ),
                            ),
                          ),
                        ),
                      ),
                    ),
                  ),
                ),
              ),
            ),
          ),
        ),
      ),
    ),
  ),
)

pub some_are_read : SomeAreRead
some_are_read = record {
  run = run;
  is = is_run;
  once_from = 3;
  once_to = 4;
  once_order = omega arith;
  once = record { turn = 3; write = 1 };
  once_given = refl;
  once_written = omega arith;
  begins = 7;
  torn = (refl, refl, omega arith);
  first = 5;
  second = 6;
  third = 8;
  fourth = 10;
  order = (omega arith, omega arith, omega arith);
  first_torn = refl;
  twice = record { turn = 4; write = 3 };
  twice_given = refl;
  twice_written = omega arith;
}

pub some_is_torn : SomeIsTorn
some_is_torn = record { run = run; is = is_run; first = 14; second = 16; third = 22; fourth = 28; order = (omega arith, omega arith, omega arith); none = refl }

pub one_answer_fails : OneAnswerFails
one_answer_fails = record {
  run = run;
  is = is_run;
  first = 11;
  second = 16;
  order = omega arith;
  torn = refl;
  block = record { turn = 3; write = 1 };
  given = refl;
  stale = omega arith;
}

pub second_alone_fails : SecondAloneFails
second_alone_fails = record {
  run = run;
  is = is_run;
  first = 11;
  second = 11;
  third = 12;
  fourth = 16;
  order = (omega arith, omega arith, omega arith);
  newer = record { turn = 4; write = 3 };
  whole = refl;
  block = record { turn = 3; write = 1 };
  given = refl;
  stale = omega arith;
}

pub counted_late_fails : CountedLateFails
counted_late_fails = record {
  run = run;
  is = is_run;
  first = 0;
  second = 0;
  third = 22;
  fourth = 28;
  order = (omega arith, omega arith, omega arith);
  block = record { turn = 2; write = 0 };
  given = refl;
  stale = omega arith;
}

-- ---- a block that is lost

abbrev f4 : State
f4 = after_failure s3

abbrev f5 : State
f5 = after_submission 2 f4

abbrev f6 : State
f6 = after_tearing f5

abbrev falling : List State
falling = s1 ∷ s2 ∷ s3 ∷ f4 ∷ f5 ∷ f6 ∷ []

pub some_falls_back : SomeFallsBack
some_falls_back = record {
  run = state_at first_state falling;
  is = made falling (
    Looks refl refl (record { turn = 2; write = 0 }) refl refl,
    (
      Submits 1 refl refl (omega arith) refl,
      (
        Lands refl refl,
        (
          Answers_failed refl refl,
          (Submits 2 refl refl (omega arith) refl, (Tears refl refl, tt)),
        ),
      ),
    ),
  );
  one = 3;
  two = 6;
  order = omega arith;
  before = record { turn = 3; write = 1 };
  stood = refl;
  after = record { turn = 2; write = 0 };
  stands = refl;
  older = omega arith;
}

-- ---- rules of writes

abbrev k6 : State
k6 = record s5 { front = None; flying = false }

abbrev known_torn : List State
known_torn = s1 ∷ s2 ∷ s3 ∷ s4 ∷ s5 ∷ k6 ∷ []

pub same_sector_fails : SameSectorFails
same_sector_fails = record {
  run = state_at first_state known_torn;
  is = made_with TearsKnown known_torn (
    inl (Looks refl refl (record { turn = 2; write = 0 }) refl refl),
    (
      inl (Submits 1 refl refl (omega arith) refl),
      (
        inl (Lands refl refl),
        (inl (Answers_ok refl refl refl), (inl (Submits 2 refl refl (omega arith) refl), (inr (refl, refl), tt))),
      ),
    ),
  );
  moment = 6;
  quiet = refl;
  block = record { turn = 2; write = 0 };
  given = refl;
  stale = omega arith;
}

abbrev u1 : State
u1 = record (after_submission 1 first_state) { turn = 1 }

abbrev u2 : State
u2 = after_landing u1

abbrev u3 : State
u3 = after_ok u2

abbrev unseen : List State
unseen = u1 ∷ u2 ∷ u3 ∷ []

pub unseen_turn_fails : UnseenTurnFails
unseen_turn_fails = record {
  run = state_at first_state unseen;
  is = made_with SubmitsUnseen unseen (inr (refl, refl), (inl (Lands refl refl), (inl (Answers_ok refl refl refl), tt)));
  moment = 3;
  quiet = refl;
  block = record { turn = 2; write = 0 };
  given = refl;
  stale = omega arith;
}

abbrev o3 : State
o3 = record s2 { flying = false; shown = false; waits = false }

abbrev o4 : State
o4 = after_look 2 o3

abbrev o5 : State
o5 = after_submission 2 o4

abbrev o6 : State
o6 = after_landing o5

abbrev o7 : State
o7 = after_ok o6

abbrev o8 : State
o8 = record o7 { front = Some (record { turn = 3; write = 1 }) }

abbrev overlapping : List State
overlapping = s1 ∷ s2 ∷ o3 ∷ o4 ∷ o5 ∷ o6 ∷ o7 ∷ o8 ∷ []

pub overlap_fails : OverlapFails
overlap_fails = record {
  run = state_at first_state overlapping;
  is = made_with Overlaps overlapping (
    inl (Looks refl refl (record { turn = 2; write = 0 }) refl refl),
    (
      inl (Submits 1 refl refl (omega arith) refl),
      (
        inr (Begins_early refl refl),
        (
          inl (Looks refl refl (record { turn = 2; write = 0 }) refl refl),
          (
            inl (Submits 2 refl refl (omega arith) refl),
            (
              inl (Lands refl refl),
              (inl (Answers_ok refl refl refl), (inr (Lands_late refl), tt)),
            ),
          ),
        ),
      ),
    ),
  );
  moment = 8;
  quiet = refl;
  block = record { turn = 3; write = 1 };
  given = refl;
  stale = omega arith;
}
