-- Host 1 holds exclusive and is reset; host 2 takes over; a second session of host 1 joins and settles for host 2's session.
use Rattle.sl_ballot_law.specs.Ballots.{BallotEnded, Begun, GoesUp, IsFoundBlock, IsLastWrite, IsLawful, IsPhase1, IsPhase2, KeepsBallots, OpensBallot, LeaderSubmitted, Never_led, NumbersArePositive, Owner_over, Phase, Phase_1, Phase_2, ProposesSeen}
use Rattle.sl_ballot_law.specs.Grants.{ExclusiveGranted, KeepsGrants, LooksAfterBegun}
use Rattle.sl_ballot_law.specs.History.{Owner}
use Rattle.sl_ballot_law.specs.Instances.{KeepsInstances}
use Rattle.sl_ballot_law.specs.Sessions.{EarlierAreOver, EvidenceMeansOver, SessionsInOrder}
use Rattle.sl_words.proofs.CaseLaws.{false_is_true, some_value, true_is_false}
use Rattle.sl_examples.proofs.Ballots.HistoryRows.{each_host, begins, ended, found, itself, joins_is, last, newest, owner_same, accepts, readers, register, unmarked, writers}
use Rattle.sl_examples.specs.Ballots.MadeHistories.{joins, one, two}
use Rattle.sl_examples.specs.Ballots.TakenOver.{SomeIsTakenOver, again, grants, history, leads, lives, reads, writes}
use Rattle.sl_words.proofs.TableLaws.{each_row}
use Rattle.sl_words.proofs.WordLaws.{or_true}
use Rattle.std.proofs.lemmas.Bool.{eqb-true}
use Rattle.std.proofs.lemmas.Bool.Decides.{nat_tests}
use Rattle.std.proofs.Common.{Some, ap, arith, cond, false, inl, inr, refl, subst, sym, true, ℕ, ◌&&◌, ◌<◌, ◌==◌, ◌∙◌, ◌≡◌, ◌≤◌, ◌⊎◌}

-- ---- sessions

-- The second session of host 1 joins at step 40, and the first sessions at the steps of their ids.
is_joined : (s : Owner) (j : ℕ) → lives.joined s ≡ Some j → ((s.generation ≡ 1) × (s.id ≡ j)) ⊎ ((s.id ≡ 1) × (s.generation ≡ 2) × (j ≡ 40))
is_joined s j = elim (s.id == 1) as (λ a. (s.id == 1) ≡ a → cond (a && s.generation == 2) (Some 40) (joins s) ≡ Some j → ((s.generation ≡ 1) × (s.id ≡ j)) ⊎ ((s.id ≡ 1) × (s.generation ≡ 2) × (j ≡ 40))) [
  | true ↦ λ a. elim (s.generation == 2) as (λ b. (s.generation == 2) ≡ b → cond b (Some 40) (joins s) ≡ Some j → ((s.generation ≡ 1) × (s.id ≡ j)) ⊎ ((s.id ≡ 1) × (s.generation ≡ 2) × (j ≡ 40))) [
    | true ↦ λ b h. inr (eqb-true s.id 1 a, eqb-true s.generation 2 b, sym (some_value 40 j h))
    | false ↦ λ b h. inl (joins_is s j h)
  ] refl
  | false ↦ λ a h. inl (joins_is s j h)
] refl

is_over : (s : Owner) (t : ℕ) → history.over s t ≡ true → (20 ≤ t) × (s.id ≡ 1) × (s.generation ≡ 1)
is_over s t e = (grind (arith, nat_tests), grind (arith, nat_tests), grind (arith, nat_tests))

over_from : (s : Owner) (t : ℕ) → s.id ≡ 1 → s.generation ≡ 1 → 20 ≤ t → history.over s t ≡ true
over_from s t p q l = grind (arith, nat_tests)

is_known : (o s : Owner) (t : ℕ) → history.evidence o s t ≡ true → (24 ≤ t) × (s.id ≡ 1) × (s.generation ≡ 1)
is_known o s t e = (grind (arith, nat_tests), grind (arith, nat_tests), grind (arith, nat_tests))

once : (s u : Owner) (j : ℕ) → history.joined s ≡ Some j → history.joined u ≡ Some j → s.id ≡ u.id → s ≡ u
once s u j p q id = elim (is_joined s j p) [
  | inl a ↦ elim (is_joined u j q) [ inl b ↦ owner_same s u id (a.0 ∙ sym b.0) | inr b ↦ absurd (omega (arith, a.1, b.0, b.2)) ]
  | inr a ↦ elim (is_joined u j q) [ inl b ↦ absurd (omega (arith, a.0, a.2, b.1)) | inr b ↦ owner_same s u id (a.1 ∙ sym b.1) ]
]

earlier : EarlierAreOver history
earlier s u i j p q id l = elim (is_joined s i p) [
  | inl a ↦ elim (is_joined u j q) [ inl b ↦ absurd (omega (arith, a.1, b.1)) | inr b ↦ over_from s j (id ∙ b.0) a.0 (omega (arith, b.2)) ]
  | inr a ↦ elim (is_joined u j q) [ inl b ↦ absurd (omega (arith, a.0, a.2, b.1)) | inr b ↦ absurd (omega (arith, a.2, b.2)) ]
]

silent : (s : Owner) (t e : ℕ) → history.over s t ≡ true → history.writes e ≡ true → history.writer e ≡ s → e < t
silent s t e over w is =
    let p = is_over s t over in
    let since = p.0 in
    let early = each_row (λ e. (history.writer e).id ≡ 1 → (history.writer e).generation ≡ 1 → e < 20) writes (omega arith) e w
    (ap (λ (s : Owner). s.id) is ∙ p.1) (ap (λ (s : Owner). s.generation) is ∙ p.2) in
    omega arith

settled : (s : Owner) (t e a : ℕ) → history.over s t ≡ true → history.writes e ≡ true → history.writer e ≡ s → history.ok e ≡ Some a → a ≤ t
settled s t e a over w is ok =
    let p = is_over s t over in
    let since = p.0 in
    let answered : (b : ℕ) (c : ℕ) → c ≤ 20 → Some c ≡ Some b → b ≤ 20 = λ b c l o. let at = some_value c b o in omega arith in
    let early = each_row (λ e. (a : ℕ) → history.ok e ≡ Some a → (history.writer e).id ≡ 1 → (history.writer e).generation ≡ 1 → a ≤ 20) writes
    (λ a o i g. answered a 6 (omega arith) o, (λ a o i g. answered a 10 (omega arith) o, (λ a o i g. absurd (omega arith), (λ a o i g. absurd (omega arith), (λ a o i g. absurd (omega arith), (λ a o i g. absurd (omega arith), tt))))))
    e w a ok (ap (λ (s : Owner). s.id) is ∙ p.1) (ap (λ (s : Owner). s.generation) is ∙ p.2) in
    omega arith

orders : SessionsInOrder history
orders = record {
  writers = writers lives writes reads leads refl;
  readers = readers lives writes reads leads refl;
  once = once;
  final = λ s t u over l. let p = is_over s t over in over_from s u p.1 p.2 (omega (arith, p.0));
  silent = silent;
  settled = settled;
}

evidence : EvidenceMeansOver history
evidence o s t j known is = let p = is_known o s t known in over_from s t p.1 p.2 (omega (arith, p.0))

-- ---- ballots

found_5 : IsFoundBlock history 5
found_5 = found lives writes reads leads 5 3 refl refl (omega arith) refl refl (omega arith)

last_9 : IsLastWrite history 9
last_9 = last lives writes reads leads 9 refl refl (omega arith) (omega arith)

found_27 : IsFoundBlock history 27
found_27 = found lives writes reads leads 27 25 refl refl (omega arith) refl refl (omega arith)

last_31 : IsLastWrite history 31
last_31 = last lives writes reads leads 31 refl refl (omega arith) (omega arith)

found_43 : IsFoundBlock history 43
found_43 = found lives writes reads leads 43 41 refl refl (omega arith) refl refl (omega arith)

last_47 : IsLastWrite history 47
last_47 = last lives writes reads leads 47 refl refl (omega arith) (omega arith)

one_5 : IsPhase1 history 5
one_5 = begins lives writes reads leads 5 refl (omega arith)

two_9 : IsPhase2 history 9
two_9 = accepts lives writes reads leads 9 6 7 1 1 one_5 last_9 (refl, refl) (λ k. refl)
    (inl (itself lives writes reads leads 9 7 1 refl (omega arith))) (omega arith) (omega arith)

one_27 : IsPhase1 history 27
one_27 = begins lives writes reads leads 27 refl (omega arith)

two_31 : IsPhase2 history 31
two_31 = accepts lives writes reads leads 31 28 29 2 2 one_27 last_31 (refl, refl) (λ k. refl)
    (inl (itself lives writes reads leads 31 29 2 refl (omega arith))) (omega arith) (omega arith)

one_43 : IsPhase1 history 43
one_43 = begins lives writes reads leads 43 refl (omega arith)

-- It takes over the value that host 2's block shows.
seen_47 : ProposesSeen history 47 45 2
seen_47 = record {
  host = 2;
  lver = refl;
  bal = omega arith;
  inp = refl;
  most = λ k. each_host (λ x. (history.block x).lver ≡ 2 → (history.block x).bal ≤ 2) k 43 31 (λ e. omega arith) (λ e. omega arith) (omega arith);
}

two_47 : IsPhase2 history 47
two_47 = accepts lives writes reads leads 47 44 45 2 3 one_43 last_47 (refl, refl) (λ k. refl)
    (inr seen_47) (omega arith) (omega arith)

won_1 : (t : ℕ) → 12 ≤ t → BallotEnded history one 1 one t
won_1 t l = ended lives writes reads leads 9 10 11 1 1 t one one two_9 (refl, refl, refl, refl, refl) (λ k. refl)
    (omega arith) (omega arith)

won_2 : (t : ℕ) → 34 ≤ t → BallotEnded history two 2 two t
won_2 t l = ended lives writes reads leads 31 32 33 2 2 t two two two_31 (refl, refl, refl, refl, refl) (λ k. refl)
    (omega arith) (omega arith)

settled_2 : (t : ℕ) → 50 ≤ t → BallotEnded history again 2 two t
settled_2 t l = ended lives writes reads leads 47 48 49 2 3 t again two two_47 (refl, refl, refl, refl, refl) (λ k. refl)
    (omega arith) (omega arith)

held_1 : LeaderSubmitted history 1 one true 27
held_1 = record { step = 13; leads = refl; before = omega arith; lver = refl; owner = refl; held = refl }

opens_5 : OpensBallot history 5
opens_5 = record { one = one_5; reason = Never_led refl }

opens_27 : OpensBallot history 27
opens_27 = record { one = one_27; reason = Owner_over one 1 24 refl held_1 refl (omega arith) }

opens_43 : OpensBallot history 43
opens_43 = record { one = one_43; reason = Begun 31 refl (omega arith) refl }

ballots : KeepsBallots history
ballots = record {
  base = each_row (λ e. IsLastWrite history e ⊎ IsFoundBlock history e) writes (inr found_5, (inl last_9, (inr found_27, (inl last_31, (inr found_43, (inl last_47, tt))))));
  phase = each_row (Phase history) writes (Phase_1 opens_5, (Phase_2 two_9, (Phase_1 opens_27, (Phase_2 two_31, (Phase_1 opens_43, (Phase_2 two_47, tt))))));
}

up : GoesUp history
up e w one = each_row (λ e. (history.block (history.base e)).lver ≤ (history.block e).lver) writes (omega arith) e w

numbers : NumbersArePositive history
numbers e w one = each_row (λ e. 0 < (history.block e).mbal) writes (omega arith) e w

lawful : IsLawful history
lawful = record {
  register = register lives writes reads leads (refl, refl, refl) refl refl;
  newest = newest lives writes reads leads refl;
  sessions = orders;
  earlier = earlier;
  ballots = ballots;
  up = up;
  numbers = numbers;
}

instances : KeepsInstances history
instances = record {
  leaders = each_row (λ l. BallotEnded history (history.leader l).owner (history.leader l).lver (history.leader l).owner l) leads
      (won_1 13 (omega arith), (won_2 35 (omega arith), tt));
  evidence = evidence;
}

-- ---- grants

none_freed : (l : ℕ) → history.leads l ≡ true → (history.leader l).held ≡ false → ⊥
none_freed = each_row (λ l. (history.leader l).held ≡ false → ⊥) leads (λ f. true_is_false f, (λ f. true_is_false f, tt))

is_grant : (g : ℕ) → grants.exclusive g ≡ true → (g ≡ 15) ⊎ (g ≡ 37)
is_grant g e = elim (or_true (g == 15) (g == 37) e) [ inl t ↦ inl (eqb-true g 15 t) | inr t ↦ inr (eqb-true g 37 t) ]

exclusive_15 : ExclusiveGranted history grants 15
exclusive_15 = record {
  ballot = won_1 15 (omega arith);
  reads = refl;
  answer = omega arith;
  whole = λ k other. refl;
  alone = λ k other marked. absurd (unmarked lives writes reads leads (grants.look 15) (refl, refl, refl) k marked);
  unfreed = λ d. none_freed d.step d.leads d.held;
}

exclusive_37 : ExclusiveGranted history grants 37
exclusive_37 = record {
  ballot = won_2 37 (omega arith);
  reads = refl;
  answer = omega arith;
  whole = λ k other. refl;
  alone = λ k other marked. absurd (unmarked lives writes reads leads (grants.look 37) (refl, refl, refl) k marked);
  unfreed = λ d. none_freed d.step d.leads d.held;
}

is_held : (g t : ℕ) → grants.holds g t ≡ true → ((g ≡ 15) × (15 ≤ t) × (t < 20)) ⊎ ((g ≡ 37) × (37 ≤ t))
is_held g t e = grind (arith, nat_tests)

held_15 : (t : ℕ) → 15 ≤ t → t < 20 → grants.holds 15 t ≡ true
held_15 t l m = grind (arith, nat_tests)

held_37 : (t : ℕ) → 37 ≤ t → grants.holds 37 t ≡ true
held_37 t l = grind (arith, nat_tests)

abbrev Stands : ℕ → ℕ → Type 0
Stands g t = (grants.exclusive g ≡ true) × (g ≤ t) × (history.over (grants.holder g) t ≡ true → ⊥)

rules : KeepsGrants history grants
rules = record {
  exclusive = λ g is. elim (is_grant g is) [
    | inl e ↦ subst (ExclusiveGranted history grants) (sym e) exclusive_15
    | inr e ↦ subst (ExclusiveGranted history grants) (sym e) exclusive_37
  ];
  shared = λ g is. absurd (false_is_true is);
  holds = λ g t is. elim (is_held g t is) [
    | inl p ↦ subst (λ (x : ℕ). Stands x t) (sym p.0) (refl, p.1, λ over. let late = (is_over one t over).0 in omega (arith, p.2))
    | inr p ↦ subst (λ (x : ℕ). Stands x t) (sym p.0) (refl, p.1, λ over. let id = (is_over two t over).1 in omega arith)
  ];
  whole = λ g t u is l m. elim (is_held g t is) [
    | inl p ↦ subst (λ (x : ℕ). grants.holds x u ≡ true) (sym p.0) (held_15 u (omega (arith, p.0)) (omega (arith, p.2)))
    | inr p ↦ subst (λ (x : ℕ). grants.holds x u ≡ true) (sym p.0) (held_37 u (omega (arith, p.0)))
  ];
  shares = λ g t is. absurd (false_is_true is);
  unheld = λ l g is free owner lver held. none_freed l is free;
}

-- What an exclusive grant's look comes after.
abbrev BegunBefore : ℕ → Type 0
BegunBefore g = (e : ℕ) × (history.writes e ≡ true) × ((history.block e).lver ≡ grants.instance g) × (e ≤ grants.look g)

looks : LooksAfterBegun history grants
looks g is = elim (is_grant g is) [
  | inl e ↦ subst BegunBefore (sym e) (5, refl, refl, omega arith)
  | inr e ↦ subst BegunBefore (sym e) (27, refl, refl, omega arith)
]

pub some_is_taken_over : SomeIsTakenOver
some_is_taken_over = record {
  lawful = lawful;
  instances = instances;
  granted = record { rules = rules; looks = looks; marks = λ g l a is. absurd (false_is_true is) };
  before = refl;
  over = refl;
  after = refl;
  settled = settled_2 50 (omega arith);
}
