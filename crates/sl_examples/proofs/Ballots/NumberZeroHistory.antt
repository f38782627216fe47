-- Host 2 runs a ballot of number 0: what it accepts counts as nothing accepted, and host 1 wins the instance too.
use Rattle.sl_ballot_law.specs.Ballots.{BallotEnded, GoesUp, IsFoundBlock, IsLastWrite, IsPhase1, IsPhase2, KeepsBallots, OpensBallot, Never_led, Phase, Phase_1, Phase_2}
use Rattle.sl_ballot_law.specs.Instances.{KeepsInstances}
use Rattle.sl_words.proofs.CaseLaws.{false_is_true}
use Rattle.sl_examples.proofs.Ballots.HistoryRows.{earlier_over, begins, ended, found, in_order, itself, last, newest, one_is_not_two, accepts, register}
use Rattle.sl_examples.specs.Ballots.MadeHistories.{lasting, one, two}
use Rattle.sl_examples.specs.Ballots.NumberZero.{ZeroBreaks, history, leads, reads, writes}
use Rattle.sl_words.proofs.TableLaws.{each_row}
use Rattle.std.proofs.Common.{arith, inl, inr, refl, ℕ, ◌≤◌, ◌⊎◌}

found_5 : IsFoundBlock history 5
found_5 = found lasting writes reads leads 5 3 refl refl (omega arith) refl refl (omega arith)

last_9 : IsLastWrite history 9
last_9 = last lasting writes reads leads 9 refl refl (omega arith) (omega arith)

found_15 : IsFoundBlock history 15
found_15 = found lasting writes reads leads 15 13 refl refl (omega arith) refl refl (omega arith)

last_19 : IsLastWrite history 19
last_19 = last lasting writes reads leads 19 refl refl (omega arith) (omega arith)

one_5 : IsPhase1 history 5
one_5 = begins lasting writes reads leads 5 refl (omega arith)

two_9 : IsPhase2 history 9
two_9 = accepts lasting writes reads leads 9 6 7 1 0 one_5 last_9 (refl, refl) (λ k. refl)
    (inl (itself lasting writes reads leads 9 7 1 refl (omega arith))) (omega arith) (omega arith)

one_15 : IsPhase1 history 15
one_15 = begins lasting writes reads leads 15 refl (omega arith)

two_19 : IsPhase2 history 19
two_19 = accepts lasting writes reads leads 19 16 17 1 1 one_15 last_19 (refl, refl) (λ k. refl)
    (inl (itself lasting writes reads leads 19 17 1 refl (omega arith))) (omega arith) (omega arith)

second : (t : ℕ) → 12 ≤ t → BallotEnded history two 1 two t
second t l = ended lasting writes reads leads 9 10 11 1 0 t two two two_9 (refl, refl, refl, refl, refl) (λ k. refl)
    (omega arith) (omega arith)

first : (t : ℕ) → 22 ≤ t → BallotEnded history one 1 one t
first t l = ended lasting writes reads leads 19 20 21 1 1 t one one two_19 (refl, refl, refl, refl, refl) (λ k. refl)
    (omega arith) (omega arith)

opens_5 : OpensBallot history 5
opens_5 = record { one = one_5; reason = Never_led refl }

opens_15 : OpensBallot history 15
opens_15 = record { one = one_15; reason = Never_led refl }

ballots : KeepsBallots history
ballots = record {
  base = each_row (λ e. IsLastWrite history e ⊎ IsFoundBlock history e) writes (inr found_5, (inl last_9, (inr found_15, (inl last_19, tt))));
  phase = each_row (Phase history) writes (Phase_1 opens_5, (Phase_2 two_9, (Phase_1 opens_15, (Phase_2 two_19, tt))));
}

up : GoesUp history
up e w one = each_row (λ e. (history.block (history.base e)).lver ≤ (history.block e).lver) writes (omega arith) e w

instances : KeepsInstances history
instances = record {
  leaders = each_row (λ l. BallotEnded history (history.leader l).owner (history.leader l).lver (history.leader l).owner l) leads
      tt;
  evidence = λ o s t j known. absurd (false_is_true known);
}

pub zero_breaks : ZeroBreaks
zero_breaks = record {
  register = register lasting writes reads leads (refl, refl, refl) refl refl;
  newest = newest lasting writes reads leads refl;
  sessions = in_order writes reads leads refl refl;
  earlier = earlier_over writes reads leads;
  ballots = ballots;
  up = up;
  instances = instances;
  fails = record { first = first 22 (omega arith); second = second 22 (omega arith); apart = one_is_not_two };
}
