-- A write of host 1 that was left in flight lands over its later one, and two ballots of instance 1 end with two sessions.
use Rattle.sl_ballot_law.specs.Ballots.{BallotEnded, GoesUp, IsFoundBlock, IsLastWrite, IsPhase1, IsPhase2, KeepsBallots, OpensBallot, Never_led, NumbersArePositive, Phase, Phase_1, Phase_2}
use Rattle.sl_ballot_law.specs.Instances.{KeepsInstances}
use Rattle.sl_words.proofs.CaseLaws.{false_is_true}
use Rattle.sl_examples.proofs.Ballots.HistoryRows.{earlier_over, begins, ended, found, in_order, itself, last, one_is_not_two, accepts, register}
use Rattle.sl_examples.specs.Ballots.MadeHistories.{lasting, one, two}
use Rattle.sl_examples.specs.Ballots.Overlap.{OverlapBreaks, history, leads, reads, writes}
use Rattle.sl_words.proofs.TableLaws.{each_row}
use Rattle.std.proofs.Common.{arith, inl, inr, refl, ℕ, ◌<◌, ◌≤◌, ◌⊎◌}

found_5 : IsFoundBlock history 5
found_5 = found lasting writes reads leads 5 3 refl refl (omega arith) refl refl (omega arith)

last_7 : IsLastWrite history 7
last_7 = last lasting writes reads leads 7 refl refl (omega arith) (omega arith)

last_11 : IsLastWrite history 11
last_11 = last lasting writes reads leads 11 refl refl (omega arith) (omega arith)

found_17 : IsFoundBlock history 17
found_17 = found lasting writes reads leads 17 15 refl refl (omega arith) refl refl (omega arith)

last_21 : IsLastWrite history 21
last_21 = last lasting writes reads leads 21 refl refl (omega arith) (omega arith)

one_5 : IsPhase1 history 5
one_5 = begins lasting writes reads leads 5 refl (omega arith)

one_7 : IsPhase1 history 7
one_7 = record { instance = omega arith; host = refl; mbal = λ e. omega arith; bal = λ e. omega arith; inp = λ e. refl; anew = λ l. absurd (omega arith) }

two_11 : IsPhase2 history 11
two_11 = accepts lasting writes reads leads 11 8 9 1 3 one_7 last_11 (refl, refl) (λ k. refl)
    (inl (itself lasting writes reads leads 11 9 1 refl (omega arith))) (omega arith) (omega arith)

one_17 : IsPhase1 history 17
one_17 = begins lasting writes reads leads 17 refl (omega arith)

two_21 : IsPhase2 history 21
two_21 = accepts lasting writes reads leads 21 18 19 1 4 one_17 last_21 (refl, refl) (λ k. refl)
    (inl (itself lasting writes reads leads 21 19 1 refl (omega arith))) (omega arith) (omega arith)

first : (t : ℕ) → 14 ≤ t → BallotEnded history one 1 one t
first t l = ended lasting writes reads leads 11 12 13 1 3 t one one two_11 (refl, refl, refl, refl, refl) (λ k. refl)
    (omega arith) (omega arith)

second : (t : ℕ) → 24 ≤ t → BallotEnded history two 1 two t
second t l = ended lasting writes reads leads 21 22 23 1 4 t two two two_21 (refl, refl, refl, refl, refl) (λ k. refl)
    (omega arith) (omega arith)

opens_5 : OpensBallot history 5
opens_5 = record { one = one_5; reason = Never_led refl }

opens_7 : OpensBallot history 7
opens_7 = record { one = one_7; reason = Never_led refl }

opens_17 : OpensBallot history 17
opens_17 = record { one = one_17; reason = Never_led refl }

ballots : KeepsBallots history
ballots = record {
  base = each_row (λ e. IsLastWrite history e ⊎ IsFoundBlock history e) writes (inr found_5, (inl last_7, (inl last_11, (inr found_17, (inl last_21, tt)))));
  phase = each_row (Phase history) writes (Phase_1 opens_5, (Phase_1 opens_7, (Phase_2 two_11, (Phase_1 opens_17, (Phase_2 two_21, tt)))));
}

up : GoesUp history
up e w one = each_row (λ e. (history.block (history.base e)).lver ≤ (history.block e).lver) writes (omega arith) e w

numbers : NumbersArePositive history
numbers e w one = each_row (λ e. 0 < (history.block e).mbal) writes (omega arith) e w

instances : KeepsInstances history
instances = record {
  leaders = each_row (λ l. BallotEnded history (history.leader l).owner (history.leader l).lver (history.leader l).owner l) leads
      tt;
  evidence = λ o s t j known. absurd (false_is_true known);
}

pub overlap_breaks : OverlapBreaks
overlap_breaks = record {
  register = register lasting writes reads leads (refl, refl, refl) refl refl;
  sessions = in_order writes reads leads refl refl;
  earlier = earlier_over writes reads leads;
  ballots = ballots;
  up = up;
  numbers = numbers;
  instances = instances;
  fails = record { first = first 24 (omega arith); second = second 24 (omega arith); apart = one_is_not_two };
}
