-- Host 1 frees instance 1 and only then marks its block: host 2 is granted exclusive before, and host 1 shared after.
use Rattle.sl_ballot_law.specs.Ballots.{BallotEnded, Freed_before, GoesUp, IsFoundBlock, IsLastWrite, IsLawful, IsPhase1, IsPhase2, KeepsBallot, KeepsBallots, OpensBallot, LeaderSubmitted, Mode_only, Never_led, NumbersArePositive, Phase, Phase_1, Phase_2}
use Rattle.sl_ballot_law.specs.Grants.{ExclusiveGranted, KeepsGrants, LooksAfterBegun, SharedGranted}
use Rattle.sl_ballot_law.specs.History.{Owner}
use Rattle.sl_ballot_law.specs.Instances.{KeepsInstances}
use Rattle.sl_words.proofs.CaseLaws.{false_is_true}
use Rattle.sl_examples.proofs.Ballots.HistoryRows.{earlier_over, begins, ended, found, in_order, itself, last, newest, one_is_not_two, accepts, register, unmarked}
use Rattle.sl_examples.specs.Ballots.MadeHistories.{lasting, one, two}
use Rattle.sl_examples.specs.Ballots.FreedFirst.{FreedFirstBreaks, grants, history, leads, reads, writes}
use Rattle.sl_words.proofs.TableLaws.{each_row}
use Rattle.std.proofs.lemmas.Bool.{eqb-true}
use Rattle.std.proofs.lemmas.Bool.Decides.{nat_tests}
use Rattle.std.proofs.Common.{arith, false, inl, inr, refl, subst, sym, true, ℕ, ◌<◌, ◌==◌, ◌≡◌, ◌≤◌, ◌⊎◌}

found_5 : IsFoundBlock history 5
found_5 = found lasting writes reads leads 5 3 refl refl (omega arith) refl refl (omega arith)

last_9 : IsLastWrite history 9
last_9 = last lasting writes reads leads 9 refl refl (omega arith) (omega arith)

found_17 : IsFoundBlock history 17
found_17 = found lasting writes reads leads 17 15 refl refl (omega arith) refl refl (omega arith)

last_21 : IsLastWrite history 21
last_21 = last lasting writes reads leads 21 refl refl (omega arith) (omega arith)

last_27 : IsLastWrite history 27
last_27 = last lasting writes reads leads 27 refl refl (omega arith) (omega arith)

one_5 : IsPhase1 history 5
one_5 = begins lasting writes reads leads 5 refl (omega arith)

two_9 : IsPhase2 history 9
two_9 = accepts lasting writes reads leads 9 6 7 1 1 one_5 last_9 (refl, refl) (λ k. refl)
    (inl (itself lasting writes reads leads 9 7 1 refl (omega arith))) (omega arith) (omega arith)

one_17 : IsPhase1 history 17
one_17 = begins lasting writes reads leads 17 refl (omega arith)

two_21 : IsPhase2 history 21
two_21 = accepts lasting writes reads leads 21 18 19 2 2 one_17 last_21 (refl, refl) (λ k. refl)
    (inl (itself lasting writes reads leads 21 19 2 refl (omega arith))) (omega arith) (omega arith)

won_1 : (t : ℕ) → 12 ≤ t → BallotEnded history one 1 one t
won_1 t l = ended lasting writes reads leads 9 10 11 1 1 t one one two_9 (refl, refl, refl, refl, refl) (λ k. refl)
    (omega arith) (omega arith)

won_2 : (t : ℕ) → 24 ≤ t → BallotEnded history two 2 two t
won_2 t l = ended lasting writes reads leads 21 22 23 2 2 t two two two_21 (refl, refl, refl, refl, refl) (λ k. refl)
    (omega arith) (omega arith)

freed_1 : (t : ℕ) → 13 < t → LeaderSubmitted history 1 one false t
freed_1 t l = record { step = 13; leads = refl; before = l; lver = refl; owner = refl; held = refl }

opens_5 : OpensBallot history 5
opens_5 = record { one = one_5; reason = Never_led refl }

opens_17 : OpensBallot history 17
opens_17 = record { one = one_17; reason = Freed_before one 1 refl (freed_1 17 (omega arith)) }

mode_27 : KeepsBallot history 27
mode_27 = record { lver = refl; mbal = refl; bal = refl; inp = refl }

ballots : KeepsBallots history
ballots = record {
  base = each_row (λ e. IsLastWrite history e ⊎ IsFoundBlock history e) writes (inr found_5, (inl last_9, (inr found_17, (inl last_21, (inl last_27, tt)))));
  phase = each_row (Phase history) writes (Phase_1 opens_5, (Phase_2 two_9, (Phase_1 opens_17, (Phase_2 two_21, (Mode_only mode_27, tt)))));
}

up : GoesUp history
up e w one = each_row (λ e. (history.block (history.base e)).lver ≤ (history.block e).lver) writes (omega arith) e w

numbers : NumbersArePositive history
numbers e w one = each_row (λ e. 0 < (history.block e).mbal) writes (omega arith) e w

lawful : IsLawful history
lawful = record {
  register = register lasting writes reads leads (refl, refl, refl) refl refl;
  newest = newest lasting writes reads leads refl;
  sessions = in_order writes reads leads refl refl;
  earlier = earlier_over writes reads leads;
  ballots = ballots;
  up = up;
  numbers = numbers;
}

instances : KeepsInstances history
instances = record {
  leaders = each_row (λ l. BallotEnded history (history.leader l).owner (history.leader l).lver (history.leader l).owner l) leads
      (won_1 13 (omega arith), (won_1 29 (omega arith), tt));
  evidence = λ o s t j known. absurd (false_is_true known);
}

-- ---- grants

exclusive_25 : ExclusiveGranted history grants 25
exclusive_25 = record {
  ballot = won_2 25 (omega arith);
  reads = refl;
  answer = omega arith;
  whole = λ k other. refl;
  alone = λ k other marked. absurd (unmarked lasting writes reads leads (grants.look 25) (refl, refl, refl) k marked);
  unfreed = λ d. each_row (λ l. (history.leader l).lver ≡ 2 → ⊥) leads (omega arith) d.step d.leads d.lver;
}

shared_31 : SharedGranted history grants 31
shared_31 = record {
  ballot = won_1 31 (omega arith);
  writes = refl;
  writer = refl;
  ack = 28;
  acked = refl;
  mode = λ t e is since by_then w s. each_row (λ e. 27 ≤ e → ((history.block e).shared ≡ true) × ((history.block e).mode_gen ≡ 1)) writes
      (λ l. absurd (omega arith), (λ l. absurd (omega arith), (λ l. absurd (omega arith), (λ l. absurd (omega arith), (λ l. (refl, refl), tt))))) e w since;
}

alive : (s : Owner) (t : ℕ) → history.over s t ≡ true → ⊥
alive s t over = false_is_true over

is_held : (g t : ℕ) → grants.holds g t ≡ true → (g ≡ 25) × (25 ≤ t)
is_held g t e = (grind (arith, nat_tests), grind (arith, nat_tests))

held : (t : ℕ) → 25 ≤ t → grants.holds 25 t ≡ true
held t l = grind (arith, nat_tests)

is_shared : (g t : ℕ) → grants.shares g t ≡ true → (g ≡ 31) × (31 ≤ t)
is_shared g t e = (grind (arith, nat_tests), grind (arith, nat_tests))

rules : KeepsGrants history grants
rules = record {
  exclusive = λ g is. subst (ExclusiveGranted history grants) (sym (eqb-true g 25 is)) exclusive_25;
  shared = λ g is. subst (SharedGranted history grants) (sym (eqb-true g 31 is)) shared_31;
  holds = λ g t is. let p = is_held g t is in (subst (λ (x : ℕ). (x == 25) ≡ true) (sym p.0) refl, omega arith, alive two t);
  whole = λ g t u is l m. let p = is_held g t is in subst (λ (x : ℕ). grants.holds x u ≡ true) (sym p.0) (held u (omega arith));
  shares = λ g t is. let p = is_shared g t is in (subst (λ (x : ℕ). (x == 31) ≡ true) (sym p.0) refl, omega arith, alive one t);
  unheld = λ l g is free owner lver held. each_row (λ l. (history.leader l).lver ≡ 2 → ⊥) leads (omega arith) l is lver;
}

looks : LooksAfterBegun history grants
looks g is = (17, refl, refl, omega arith)

pub freed_first_breaks : FreedFirstBreaks
freed_first_breaks = record {
  lawful = lawful;
  instances = instances;
  rules = rules;
  looks = looks;
  exclusive = refl;
  shared = refl;
  apart = λ e. one_is_not_two (sym e);
}
