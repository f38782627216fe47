-- Host 2 writes a block of instance 1 over its block of instance 2, and host 1 wins instance 2 too.
use Rattle.sl_ballot_law.specs.Ballots.{BallotEnded, Begun, Freed_before, IsFoundBlock, IsLastWrite, IsPhase1, IsPhase2, KeepsBallots, OpensBallot, LeaderSubmitted, Never_led, NumbersArePositive, Phase, Phase_1, Phase_2}
use Rattle.sl_ballot_law.specs.Instances.{KeepsInstances}
use Rattle.sl_words.proofs.CaseLaws.{false_is_true}
use Rattle.sl_examples.proofs.Ballots.HistoryRows.{earlier_over, begins, ended, found, in_order, itself, last, newest, one_is_not_two, accepts, register}
use Rattle.sl_examples.specs.Ballots.MadeHistories.{lasting, one, two}
use Rattle.sl_examples.specs.Ballots.OlderInstance.{LowerBreaks, history, leads, reads, writes}
use Rattle.sl_words.proofs.TableLaws.{each_row}
use Rattle.std.proofs.Common.{arith, false, inl, inr, refl, ℕ, ◌<◌, ◌≤◌, ◌⊎◌}

found_5 : IsFoundBlock history 5
found_5 = found lasting writes reads leads 5 3 refl refl (omega arith) refl refl (omega arith)

last_9 : IsLastWrite history 9
last_9 = last lasting writes reads leads 9 refl refl (omega arith) (omega arith)

found_17 : IsFoundBlock history 17
found_17 = found lasting writes reads leads 17 15 refl refl (omega arith) refl refl (omega arith)

last_21 : IsLastWrite history 21
last_21 = last lasting writes reads leads 21 refl refl (omega arith) (omega arith)

last_25 : IsLastWrite history 25
last_25 = last lasting writes reads leads 25 refl refl (omega arith) (omega arith)

last_27 : IsLastWrite history 27
last_27 = last lasting writes reads leads 27 refl refl (omega arith) (omega arith)

last_31 : IsLastWrite history 31
last_31 = last lasting writes reads leads 31 refl refl (omega arith) (omega arith)

one_5 : IsPhase1 history 5
one_5 = begins lasting writes reads leads 5 refl (omega arith)

two_9 : IsPhase2 history 9
two_9 = accepts lasting writes reads leads 9 6 7 1 1 one_5 last_9 (refl, refl) (λ k. refl)
    (inl (itself lasting writes reads leads 9 7 1 refl (omega arith))) (omega arith) (omega arith)

one_17 : IsPhase1 history 17
one_17 = begins lasting writes reads leads 17 refl (omega arith)

two_21 : IsPhase2 history 21
two_21 = accepts lasting writes reads leads 21 18 19 2 2 one_17 last_21 (refl, refl) (λ k. refl)
    (inl (itself lasting writes reads leads 21 19 2 refl (omega arith))) (omega arith) (omega arith)

one_25 : IsPhase1 history 25
one_25 = record { instance = omega arith; host = refl; mbal = λ e. omega arith; bal = λ e. absurd (omega arith); inp = λ e. absurd (omega arith); anew = λ l. absurd (omega arith) }

one_27 : IsPhase1 history 27
one_27 = begins lasting writes reads leads 27 refl (omega arith)

two_31 : IsPhase2 history 31
two_31 = accepts lasting writes reads leads 31 28 29 2 3 one_27 last_31 (refl, refl) (λ k. refl)
    (inl (itself lasting writes reads leads 31 29 2 refl (omega arith))) (omega arith) (omega arith)

won_1 : (t : ℕ) → 12 ≤ t → BallotEnded history one 1 one t
won_1 t l = ended lasting writes reads leads 9 10 11 1 1 t one one two_9 (refl, refl, refl, refl, refl) (λ k. refl)
    (omega arith) (omega arith)

second : (t : ℕ) → 24 ≤ t → BallotEnded history two 2 two t
second t l = ended lasting writes reads leads 21 22 23 2 2 t two two two_21 (refl, refl, refl, refl, refl) (λ k. refl)
    (omega arith) (omega arith)

first : (t : ℕ) → 34 ≤ t → BallotEnded history one 2 one t
first t l = ended lasting writes reads leads 31 32 33 2 3 t one one two_31 (refl, refl, refl, refl, refl) (λ k. refl)
    (omega arith) (omega arith)

freed_1 : (t : ℕ) → 13 < t → LeaderSubmitted history 1 one false t
freed_1 t l = record { step = 13; leads = refl; before = l; lver = refl; owner = refl; held = refl }

opens_5 : OpensBallot history 5
opens_5 = record { one = one_5; reason = Never_led refl }

opens_17 : OpensBallot history 17
opens_17 = record { one = one_17; reason = Freed_before one 1 refl (freed_1 17 (omega arith)) }

opens_25 : OpensBallot history 25
opens_25 = record { one = one_25; reason = Never_led refl }

opens_27 : OpensBallot history 27
opens_27 = record { one = one_27; reason = Begun 21 refl (omega arith) refl }

ballots : KeepsBallots history
ballots = record {
  base = each_row (λ e. IsLastWrite history e ⊎ IsFoundBlock history e) writes (inr found_5, (inl last_9, (inr found_17, (inl last_21, (inl last_25, (inl last_27, (inl last_31, tt)))))));
  phase = each_row (Phase history) writes (Phase_1 opens_5, (Phase_2 two_9, (Phase_1 opens_17, (Phase_2 two_21, (Phase_1 opens_25, (Phase_1 opens_27, (Phase_2 two_31, tt)))))));
}

numbers : NumbersArePositive history
numbers e w one = each_row (λ e. 0 < (history.block e).mbal) writes (omega arith) e w

instances : KeepsInstances history
instances = record {
  leaders = each_row (λ l. BallotEnded history (history.leader l).owner (history.leader l).lver (history.leader l).owner l) leads
      (won_1 13 (omega arith), tt);
  evidence = λ o s t j known. absurd (false_is_true known);
}

pub lower_breaks : LowerBreaks
lower_breaks = record {
  register = register lasting writes reads leads (refl, refl, refl) refl refl;
  newest = newest lasting writes reads leads refl;
  sessions = in_order writes reads leads refl refl;
  earlier = earlier_over writes reads leads;
  ballots = ballots;
  numbers = numbers;
  instances = instances;
  fails = record { first = first 34 (omega arith); second = second 34 (omega arith); apart = one_is_not_two };
}
