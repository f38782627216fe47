-- Host 2 looks before host 1 marks its block, and is granted exclusive by this look after.
use Rattle.sl_ballot_law.specs.Ballots.{BallotEnded, Freed_before, GoesUp, IsFoundBlock, IsLastWrite, IsLawful, IsPhase1, IsPhase2, KeepsBallot, KeepsBallots, OpensBallot, LeaderSubmitted, Mode_only, Never_led, NumbersArePositive, Phase, Phase_1, Phase_2}
use Rattle.sl_ballot_law.specs.Grants.{ExclusiveGranted, FreesAfterMark, KeepsGrants, SharedGranted}
use Rattle.sl_ballot_law.specs.History.{Owner}
use Rattle.sl_ballot_law.specs.Instances.{KeepsInstances}
use Rattle.sl_words.proofs.CaseLaws.{false_is_true, some_value}
use Rattle.sl_examples.proofs.Ballots.HistoryRows.{earlier_over, begins, ended, found, in_order, itself, last, newest, one_is_not_two, accepts, register, unmarked}
use Rattle.sl_examples.specs.Ballots.MadeHistories.{lasting, one, two}
use Rattle.sl_examples.specs.Ballots.EarlyLook.{EarlyLookBreaks, grants, history, leads, reads, writes}
use Rattle.sl_words.proofs.TableLaws.{each_row}
use Rattle.std.proofs.lemmas.Bool.{eqb-true}
use Rattle.std.proofs.lemmas.Bool.Decides.{nat_tests}
use Rattle.std.proofs.Common.{ap, arith, false, inl, inr, refl, subst, sym, true, ℕ, ◌<◌, ◌==◌, ◌≡◌, ◌≤◌, ◌⊎◌}

found_5 : IsFoundBlock history 5
found_5 = found lasting writes reads leads 5 3 refl refl (omega arith) refl refl (omega arith)

last_9 : IsLastWrite history 9
last_9 = last lasting writes reads leads 9 refl refl (omega arith) (omega arith)

last_15 : IsLastWrite history 15
last_15 = last lasting writes reads leads 15 refl refl (omega arith) (omega arith)

found_21 : IsFoundBlock history 21
found_21 = found lasting writes reads leads 21 13 refl refl (omega arith) refl refl (omega arith)

last_25 : IsLastWrite history 25
last_25 = last lasting writes reads leads 25 refl refl (omega arith) (omega arith)

one_5 : IsPhase1 history 5
one_5 = begins lasting writes reads leads 5 refl (omega arith)

two_9 : IsPhase2 history 9
two_9 = accepts lasting writes reads leads 9 6 7 1 1 one_5 last_9 (refl, refl) (λ k. refl)
    (inl (itself lasting writes reads leads 9 7 1 refl (omega arith))) (omega arith) (omega arith)

one_21 : IsPhase1 history 21
one_21 = begins lasting writes reads leads 21 refl (omega arith)

two_25 : IsPhase2 history 25
two_25 = accepts lasting writes reads leads 25 22 23 2 2 one_21 last_25 (refl, refl) (λ k. refl)
    (inl (itself lasting writes reads leads 25 23 2 refl (omega arith))) (omega arith) (omega arith)

won_1 : (t : ℕ) → 12 ≤ t → BallotEnded history one 1 one t
won_1 t l = ended lasting writes reads leads 9 10 11 1 1 t one one two_9 (refl, refl, refl, refl, refl) (λ k. refl)
    (omega arith) (omega arith)

won_2 : (t : ℕ) → 28 ≤ t → BallotEnded history two 2 two t
won_2 t l = ended lasting writes reads leads 25 26 27 2 2 t two two two_25 (refl, refl, refl, refl, refl) (λ k. refl)
    (omega arith) (omega arith)

freed_1 : (t : ℕ) → 17 < t → LeaderSubmitted history 1 one false t
freed_1 t l = record { step = 17; leads = refl; before = l; lver = refl; owner = refl; held = refl }

opens_5 : OpensBallot history 5
opens_5 = record { one = one_5; reason = Never_led refl }

mode_15 : KeepsBallot history 15
mode_15 = record { lver = refl; mbal = refl; bal = refl; inp = refl }

opens_21 : OpensBallot history 21
opens_21 = record { one = one_21; reason = Freed_before one 1 refl (freed_1 21 (omega arith)) }

ballots : KeepsBallots history
ballots = record {
  base = each_row (λ e. IsLastWrite history e ⊎ IsFoundBlock history e) writes (inr found_5, (inl last_9, (inl last_15, (inr found_21, (inl last_25, tt)))));
  phase = each_row (Phase history) writes (Phase_1 opens_5, (Phase_2 two_9, (Mode_only mode_15, (Phase_1 opens_21, (Phase_2 two_25, tt)))));
}

up : GoesUp history
up e w one = each_row (λ e. (history.block (history.base e)).lver ≤ (history.block e).lver) writes (omega arith) e w

numbers : NumbersArePositive history
numbers e w one = each_row (λ e. 0 < (history.block e).mbal) writes (omega arith) e w

lawful : IsLawful history
lawful = record {
  register = register lasting writes reads leads (refl, refl, refl) refl refl;
  newest = newest lasting writes reads leads refl;
  sessions = in_order writes reads leads refl refl;
  earlier = earlier_over writes reads leads;
  ballots = ballots;
  up = up;
  numbers = numbers;
}

instances : KeepsInstances history
instances = record {
  leaders = each_row (λ l. BallotEnded history (history.leader l).owner (history.leader l).lver (history.leader l).owner l) leads
      (won_1 17 (omega arith), tt);
  evidence = λ o s t j known. absurd (false_is_true known);
}

-- ---- grants

exclusive_29 : ExclusiveGranted history grants 29
exclusive_29 = record {
  ballot = won_2 29 (omega arith);
  reads = refl;
  answer = omega arith;
  whole = λ k other. refl;
  alone = λ k other marked. absurd (unmarked lasting writes reads leads (grants.look 29) (refl, refl, refl) k marked);
  unfreed = λ d. each_row (λ l. (history.leader l).lver ≡ 2 → ⊥) leads (omega arith) d.step d.leads d.lver;
}

shared_19 : SharedGranted history grants 19
shared_19 = record {
  ballot = won_1 19 (omega arith);
  writes = refl;
  writer = refl;
  ack = 16;
  acked = refl;
  mode = λ t e is since by_then w s. each_row (λ e. 15 ≤ e → (history.writer e).id ≡ 1 → ((history.block e).shared ≡ true) × ((history.block e).mode_gen ≡ 1)) writes
      (λ l m. absurd (omega arith), (λ l m. absurd (omega arith), (λ l m. (refl, refl), (λ l m. absurd (omega arith), (λ l m. absurd (omega arith), tt))))) e w since (ap (λ (u : Owner). u.id) s);
}

alive : (s : Owner) (t : ℕ) → history.over s t ≡ true → ⊥
alive s t over = false_is_true over

is_held : (g t : ℕ) → grants.holds g t ≡ true → (g ≡ 29) × (29 ≤ t)
is_held g t e = (grind (arith, nat_tests), grind (arith, nat_tests))

held : (t : ℕ) → 29 ≤ t → grants.holds 29 t ≡ true
held t l = grind (arith, nat_tests)

is_shared : (g t : ℕ) → grants.shares g t ≡ true → (g ≡ 19) × (19 ≤ t)
is_shared g t e = (grind (arith, nat_tests), grind (arith, nat_tests))

rules : KeepsGrants history grants
rules = record {
  exclusive = λ g is. subst (ExclusiveGranted history grants) (sym (eqb-true g 29 is)) exclusive_29;
  shared = λ g is. subst (SharedGranted history grants) (sym (eqb-true g 19 is)) shared_19;
  holds = λ g t is. let p = is_held g t is in (subst (λ (x : ℕ). (x == 29) ≡ true) (sym p.0) refl, omega arith, alive two t);
  whole = λ g t u is l m. let p = is_held g t is in subst (λ (x : ℕ). grants.holds x u ≡ true) (sym p.0) (held u (omega arith));
  shares = λ g t is. let p = is_shared g t is in (subst (λ (x : ℕ). (x == 19) ≡ true) (sym p.0) refl, omega arith, alive one t);
  unheld = λ l g is free owner lver held. each_row (λ l. (history.leader l).lver ≡ 2 → ⊥) leads (omega arith) l is lver;
}

marks : FreesAfterMark history grants
marks g l a is led owner lver free ok =
    let at = some_value 16 a ok in
    let late = each_row (λ l. 16 < l) leads (omega arith) l led in
    omega arith

pub early_look_breaks : EarlyLookBreaks
early_look_breaks = record {
  lawful = lawful;
  instances = instances;
  rules = rules;
  marks = marks;
  exclusive = refl;
  shared = refl;
  apart = λ e. one_is_not_two (sym e);
}
