-- Host 2 has evidence against host 1's session, which is alive, and both hold exclusive.
use Rattle.sl_ballot_law.specs.Ballots.{BallotEnded, GoesUp, IsFoundBlock, IsLastWrite, IsLawful, IsPhase1, IsPhase2, KeepsBallots, OpensBallot, LeaderSubmitted, Never_led, NumbersArePositive, Owner_over, Phase, Phase_1, Phase_2}
use Rattle.sl_ballot_law.specs.Grants.{ExclusiveGranted, KeepsGrants, LooksAfterBegun}
use Rattle.sl_ballot_law.specs.History.{Owner}
use Rattle.sl_ballot_law.specs.Instances.{LeadersHaveWon}
use Rattle.sl_ballot_law.specs.Sessions.{EarlierAreOver, SessionsInOrder}
use Rattle.sl_words.proofs.CaseLaws.{false_is_true, true_is_false}
use Rattle.sl_examples.proofs.Ballots.HistoryRows.{begins, ended, found, itself, joins_is, last, newest, one_is_not_two, owner_same, accepts, readers, register, unmarked, writers}
use Rattle.sl_examples.specs.Ballots.MadeHistories.{one, two}
use Rattle.sl_examples.specs.Ballots.FalseEvidence.{FalseEvidenceBreaks, grants, history, leads, lives, reads, writes}
use Rattle.sl_words.proofs.TableLaws.{each_row}
use Rattle.sl_words.proofs.WordLaws.{or_true}
use Rattle.std.proofs.lemmas.Bool.{eqb-true}
use Rattle.std.proofs.lemmas.Bool.Decides.{nat_tests}
use Rattle.std.proofs.Common.{arith, false, inl, inr, refl, subst, sym, true, ℕ, ◌<◌, ◌==◌, ◌∙◌, ◌≡◌, ◌≤◌, ◌⊎◌}

orders : SessionsInOrder history
orders = record {
  writers = writers lives writes reads leads refl;
  readers = readers lives writes reads leads refl;
  once = λ s u j p q id. owner_same s u id ((joins_is s j p).0 ∙ sym (joins_is u j q).0);
  final = λ s t u over l. absurd (false_is_true over);
  silent = λ s t e over. absurd (false_is_true over);
  settled = λ s t e a over. absurd (false_is_true over);
}

earlier : EarlierAreOver history
earlier s u i j p q id l = let a = joins_is s i p in let b = joins_is u j q in absurd (omega arith)

-- ---- ballots

found_5 : IsFoundBlock history 5
found_5 = found lives writes reads leads 5 3 refl refl (omega arith) refl refl (omega arith)

last_9 : IsLastWrite history 9
last_9 = last lives writes reads leads 9 refl refl (omega arith) (omega arith)

found_19 : IsFoundBlock history 19
found_19 = found lives writes reads leads 19 17 refl refl (omega arith) refl refl (omega arith)

last_23 : IsLastWrite history 23
last_23 = last lives writes reads leads 23 refl refl (omega arith) (omega arith)

one_5 : IsPhase1 history 5
one_5 = begins lives writes reads leads 5 refl (omega arith)

two_9 : IsPhase2 history 9
two_9 = accepts lives writes reads leads 9 6 7 1 1 one_5 last_9 (refl, refl) (λ k. refl)
    (inl (itself lives writes reads leads 9 7 1 refl (omega arith))) (omega arith) (omega arith)

one_19 : IsPhase1 history 19
one_19 = begins lives writes reads leads 19 refl (omega arith)

two_23 : IsPhase2 history 23
two_23 = accepts lives writes reads leads 23 20 21 2 2 one_19 last_23 (refl, refl) (λ k. refl)
    (inl (itself lives writes reads leads 23 21 2 refl (omega arith))) (omega arith) (omega arith)

won_1 : (t : ℕ) → 12 ≤ t → BallotEnded history one 1 one t
won_1 t l = ended lives writes reads leads 9 10 11 1 1 t one one two_9 (refl, refl, refl, refl, refl) (λ k. refl)
    (omega arith) (omega arith)

won_2 : (t : ℕ) → 26 ≤ t → BallotEnded history two 2 two t
won_2 t l = ended lives writes reads leads 23 24 25 2 2 t two two two_23 (refl, refl, refl, refl, refl) (λ k. refl)
    (omega arith) (omega arith)

held_1 : LeaderSubmitted history 1 one true 19
held_1 = record { step = 13; leads = refl; before = omega arith; lver = refl; owner = refl; held = refl }

opens_5 : OpensBallot history 5
opens_5 = record { one = one_5; reason = Never_led refl }

opens_19 : OpensBallot history 19
opens_19 = record { one = one_19; reason = Owner_over one 1 16 refl held_1 refl (omega arith) }

ballots : KeepsBallots history
ballots = record {
  base = each_row (λ e. IsLastWrite history e ⊎ IsFoundBlock history e) writes (inr found_5, (inl last_9, (inr found_19, (inl last_23, tt))));
  phase = each_row (Phase history) writes (Phase_1 opens_5, (Phase_2 two_9, (Phase_1 opens_19, (Phase_2 two_23, tt))));
}

up : GoesUp history
up e w one = each_row (λ e. (history.block (history.base e)).lver ≤ (history.block e).lver) writes (omega arith) e w

numbers : NumbersArePositive history
numbers e w one = each_row (λ e. 0 < (history.block e).mbal) writes (omega arith) e w

lawful : IsLawful history
lawful = record {
  register = register lives writes reads leads (refl, refl, refl) refl refl;
  newest = newest lives writes reads leads refl;
  sessions = orders;
  earlier = earlier;
  ballots = ballots;
  up = up;
  numbers = numbers;
}

leaders : LeadersHaveWon history
leaders = each_row (λ l. BallotEnded history (history.leader l).owner (history.leader l).lver (history.leader l).owner l) leads
    (won_1 13 (omega arith), (won_2 27 (omega arith), tt))

-- ---- grants

none_freed : (l : ℕ) → history.leads l ≡ true → (history.leader l).held ≡ false → ⊥
none_freed = each_row (λ l. (history.leader l).held ≡ false → ⊥) leads (λ f. true_is_false f, (λ f. true_is_false f, tt))

is_grant : (g : ℕ) → grants.exclusive g ≡ true → (g ≡ 15) ⊎ (g ≡ 29)
is_grant g e = elim (or_true (g == 15) (g == 29) e) [ inl t ↦ inl (eqb-true g 15 t) | inr t ↦ inr (eqb-true g 29 t) ]

exclusive_15 : ExclusiveGranted history grants 15
exclusive_15 = record {
  ballot = won_1 15 (omega arith);
  reads = refl;
  answer = omega arith;
  whole = λ k other. refl;
  alone = λ k other marked. absurd (unmarked lives writes reads leads (grants.look 15) (refl, refl, refl) k marked);
  unfreed = λ d. none_freed d.step d.leads d.held;
}

exclusive_29 : ExclusiveGranted history grants 29
exclusive_29 = record {
  ballot = won_2 29 (omega arith);
  reads = refl;
  answer = omega arith;
  whole = λ k other. refl;
  alone = λ k other marked. absurd (unmarked lives writes reads leads (grants.look 29) (refl, refl, refl) k marked);
  unfreed = λ d. none_freed d.step d.leads d.held;
}

alive : (s : Owner) (t : ℕ) → history.over s t ≡ true → ⊥
alive s t over = false_is_true over

is_held : (g t : ℕ) → grants.holds g t ≡ true → ((g ≡ 15) × (15 ≤ t)) ⊎ ((g ≡ 29) × (29 ≤ t))
is_held g t e = grind (arith, nat_tests)

held_15 : (t : ℕ) → 15 ≤ t → grants.holds 15 t ≡ true
held_15 t l = grind (arith, nat_tests)

held_29 : (t : ℕ) → 29 ≤ t → grants.holds 29 t ≡ true
held_29 t l = grind (arith, nat_tests)

abbrev Stands : ℕ → ℕ → Type 0
Stands g t = (grants.exclusive g ≡ true) × (g ≤ t) × (history.over (grants.holder g) t ≡ true → ⊥)

rules : KeepsGrants history grants
rules = record {
  exclusive = λ g is. elim (is_grant g is) [
    | inl e ↦ subst (ExclusiveGranted history grants) (sym e) exclusive_15
    | inr e ↦ subst (ExclusiveGranted history grants) (sym e) exclusive_29
  ];
  shared = λ g is. absurd (false_is_true is);
  holds = λ g t is. elim (is_held g t is) [
    | inl p ↦ subst (λ (x : ℕ). Stands x t) (sym p.0) (refl, p.1, alive one t)
    | inr p ↦ subst (λ (x : ℕ). Stands x t) (sym p.0) (refl, p.1, alive two t)
  ];
  whole = λ g t u is l m. elim (is_held g t is) [
    | inl p ↦ subst (λ (x : ℕ). grants.holds x u ≡ true) (sym p.0) (held_15 u (omega (arith, p.0)))
    | inr p ↦ subst (λ (x : ℕ). grants.holds x u ≡ true) (sym p.0) (held_29 u (omega (arith, p.0)))
  ];
  shares = λ g t is. absurd (false_is_true is);
  unheld = λ l g is free owner lver held. none_freed l is free;
}

-- What an exclusive grant's look comes after.
abbrev BegunBefore : ℕ → Type 0
BegunBefore g = (e : ℕ) × (history.writes e ≡ true) × ((history.block e).lver ≡ grants.instance g) × (e ≤ grants.look g)

looks : LooksAfterBegun history grants
looks g is = elim (is_grant g is) [
  | inl e ↦ subst BegunBefore (sym e) (5, refl, refl, omega arith)
  | inr e ↦ subst BegunBefore (sym e) (19, refl, refl, omega arith)
]

pub false_evidence_breaks : FalseEvidenceBreaks
false_evidence_breaks = record {
  lawful = lawful;
  leaders = leaders;
  granted = record { rules = rules; looks = looks; marks = λ g l a is. absurd (false_is_true is) };
  first = refl;
  second = refl;
  apart = one_is_not_two;
}
