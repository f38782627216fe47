-- Host 1 wins instance 1, holds exclusive and frees it; then host 2 wins instance 2 and holds shared.
use Rattle.sl_ballot_law.specs.Ballots.{BallotEnded, Freed_before, GoesUp, IsFoundBlock, IsLastWrite, IsLawful, IsPhase1, IsPhase2, KeepsBallot, KeepsBallots, OpensBallot, LeaderSubmitted, Mode_only, Never_led, NumbersArePositive, Phase, Phase_1, Phase_2}
use Rattle.sl_ballot_law.specs.Grants.{ExclusiveGranted, FreesAfterMark, KeepsGrants, LooksAfterBegun, SharedGranted}
use Rattle.sl_ballot_law.specs.History.{Owner}
use Rattle.sl_ballot_law.specs.Instances.{KeepsInstances}
use Rattle.sl_words.proofs.CaseLaws.{false_is_true, some_value, true_is_false}
use Rattle.sl_examples.proofs.Ballots.HistoryRows.{earlier_over, begins, ended, found, in_order, itself, last, newest, accepts, register, unmarked}
use Rattle.sl_examples.specs.Ballots.MadeHistories.{lasting, one, two}
use Rattle.sl_examples.specs.Ballots.TwoGrants.{SomeAreGranted, grants, history, leads, reads, writes}
use Rattle.sl_words.proofs.TableLaws.{each_row}
use Rattle.std.proofs.lemmas.Bool.{eqb-true}
use Rattle.std.proofs.lemmas.Bool.Decides.{nat_tests}
use Rattle.std.proofs.Common.{arith, false, inl, inr, refl, subst, sym, true, ℕ, ◌<◌, ◌==◌, ◌≡◌, ◌≤◌, ◌⊎◌}

found_5 : IsFoundBlock history 5
found_5 = found lasting writes reads leads 5 3 refl refl (omega arith) refl refl (omega arith)

last_9 : IsLastWrite history 9
last_9 = last lasting writes reads leads 9 refl refl (omega arith) (omega arith)

found_23 : IsFoundBlock history 23
found_23 = found lasting writes reads leads 23 21 refl refl (omega arith) refl refl (omega arith)

last_27 : IsLastWrite history 27
last_27 = last lasting writes reads leads 27 refl refl (omega arith) (omega arith)

last_31 : IsLastWrite history 31
last_31 = last lasting writes reads leads 31 refl refl (omega arith) (omega arith)

one_5 : IsPhase1 history 5
one_5 = begins lasting writes reads leads 5 refl (omega arith)

two_9 : IsPhase2 history 9
two_9 = accepts lasting writes reads leads 9 6 7 1 1 one_5 last_9 (refl, refl) (λ k. refl)
    (inl (itself lasting writes reads leads 9 7 1 refl (omega arith))) (omega arith) (omega arith)

one_23 : IsPhase1 history 23
one_23 = begins lasting writes reads leads 23 refl (omega arith)

two_27 : IsPhase2 history 27
two_27 = accepts lasting writes reads leads 27 24 25 2 2 one_23 last_27 (refl, refl) (λ k. refl)
    (inl (itself lasting writes reads leads 27 25 2 refl (omega arith))) (omega arith) (omega arith)

won_1 : (t : ℕ) → 12 ≤ t → BallotEnded history one 1 one t
won_1 t l = ended lasting writes reads leads 9 10 11 1 1 t one one two_9 (refl, refl, refl, refl, refl) (λ k. refl)
    (omega arith) (omega arith)

won_2 : (t : ℕ) → 30 ≤ t → BallotEnded history two 2 two t
won_2 t l = ended lasting writes reads leads 27 28 29 2 2 t two two two_27 (refl, refl, refl, refl, refl) (λ k. refl)
    (omega arith) (omega arith)

freed_1 : (t : ℕ) → 20 < t → LeaderSubmitted history 1 one false t
freed_1 t l = record { step = 20; leads = refl; before = l; lver = refl; owner = refl; held = refl }

opens_5 : OpensBallot history 5
opens_5 = record { one = one_5; reason = Never_led refl }

opens_23 : OpensBallot history 23
opens_23 = record { one = one_23; reason = Freed_before one 1 refl (freed_1 23 (omega arith)) }

mode_31 : KeepsBallot history 31
mode_31 = record { lver = refl; mbal = refl; bal = refl; inp = refl }

ballots : KeepsBallots history
ballots = record {
  base = each_row (λ e. IsLastWrite history e ⊎ IsFoundBlock history e) writes (inr found_5, (inl last_9, (inr found_23, (inl last_27, (inl last_31, tt)))));
  phase = each_row (Phase history) writes (Phase_1 opens_5, (Phase_2 two_9, (Phase_1 opens_23, (Phase_2 two_27, (Mode_only mode_31, tt)))));
}

up : GoesUp history
up e w one = each_row (λ e. (history.block (history.base e)).lver ≤ (history.block e).lver) writes (omega arith) e w

numbers : NumbersArePositive history
numbers e w one = each_row (λ e. 0 < (history.block e).mbal) writes (omega arith) e w

lawful : IsLawful history
lawful = record {
  register = register lasting writes reads leads (refl, refl, refl) refl refl;
  newest = newest lasting writes reads leads refl;
  sessions = in_order writes reads leads refl refl;
  earlier = earlier_over writes reads leads;
  ballots = ballots;
  up = up;
  numbers = numbers;
}

instances : KeepsInstances history
instances = record {
  leaders = each_row (λ l. BallotEnded history (history.leader l).owner (history.leader l).lver (history.leader l).owner l) leads
      (won_1 13 (omega arith), (won_1 20 (omega arith), (won_2 33 (omega arith), tt)));
  evidence = λ o s t j known. absurd (false_is_true known);
}

-- ---- grants

-- No leader is given up before step 20.
kept_until_20 : (l : ℕ) → history.leads l ≡ true → l < 20 → (history.leader l).held ≡ false → ⊥
kept_until_20 = each_row (λ l. l < 20 → (history.leader l).held ≡ false → ⊥) leads (λ m f. true_is_false f, (λ m f. absurd (omega arith), (λ m f. absurd (omega arith), tt)))

exclusive_15 : ExclusiveGranted history grants 15
exclusive_15 = record {
  ballot = won_1 15 (omega arith);
  reads = refl;
  answer = omega arith;
  whole = λ k other. refl;
  alone = λ k other marked. absurd (unmarked lasting writes reads leads (grants.look 15) (refl, refl, refl) k marked);
  unfreed = λ d. kept_until_20 d.step d.leads (let early = d.before in omega arith) d.held;
}

shared_35 : SharedGranted history grants 35
shared_35 = record {
  ballot = won_2 35 (omega arith);
  writes = refl;
  writer = refl;
  ack = 32;
  acked = refl;
  mode = λ t e is since by_then w s. each_row (λ e. 31 ≤ e → ((history.block e).shared ≡ true) × ((history.block e).mode_gen ≡ 1)) writes
      (λ l. absurd (omega arith), (λ l. absurd (omega arith), (λ l. absurd (omega arith), (λ l. absurd (omega arith), (λ l. (refl, refl), tt))))) e w since;
}

alive : (s : Owner) (t : ℕ) → history.over s t ≡ true → ⊥
alive s t over = false_is_true over

is_held : (g t : ℕ) → grants.holds g t ≡ true → (g ≡ 15) × (15 ≤ t) × (t < 20)
is_held g t e = (grind (arith, nat_tests), grind (arith, nat_tests), grind (arith, nat_tests))

held : (t : ℕ) → 15 ≤ t → t < 20 → grants.holds 15 t ≡ true
held t l m = grind (arith, nat_tests)

is_shared : (g t : ℕ) → grants.shares g t ≡ true → (g ≡ 35) × (35 ≤ t)
is_shared g t e = (grind (arith, nat_tests), grind (arith, nat_tests))

rules : KeepsGrants history grants
rules = record {
  exclusive = λ g is. subst (ExclusiveGranted history grants) (sym (eqb-true g 15 is)) exclusive_15;
  shared = λ g is. subst (SharedGranted history grants) (sym (eqb-true g 35 is)) shared_35;
  holds = λ g t is. let p = is_held g t is in (subst (λ (x : ℕ). (x == 15) ≡ true) (sym p.0) refl, omega arith, alive one t);
  whole = λ g t u is l m. let p = is_held g t is in subst (λ (x : ℕ). grants.holds x u ≡ true) (sym p.0) (held u (omega arith) (omega arith));
  shares = λ g t is. let p = is_shared g t is in (subst (λ (x : ℕ). (x == 35) ≡ true) (sym p.0) refl, omega arith, alive two t);
  unheld = λ l g is free owner lver held. kept_until_20 l is (is_held g l held).2 free;
}

looks : LooksAfterBegun history grants
looks g is = (5, refl, refl, omega arith)

marks : FreesAfterMark history grants
marks g l a is led owner lver free ok =
    let at = some_value 32 a ok in
    let late = each_row (λ l. (history.leader l).lver ≡ 2 → 32 < l) leads (omega arith) l led lver in
    omega arith

pub some_are_granted : SomeAreGranted
some_are_granted = record { lawful = lawful; instances = instances; granted = record { rules = rules; looks = looks; marks = marks }; exclusive = refl; shared = refl }
