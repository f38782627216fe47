-- Two sessions of host 1 are alive at once, share its block, and both win instance 1.
use Rattle.sl_ballot_law.specs.Ballots.{BallotEnded, GoesUp, IsFoundBlock, IsLastWrite, IsPhase1, IsPhase2, KeepsBallots, OpensBallot, Never_led, NumbersArePositive, Phase, Phase_1, Phase_2}
use Rattle.sl_ballot_law.specs.Instances.{KeepsInstances}
use Rattle.sl_ballot_law.specs.History.{Owner}
use Rattle.sl_ballot_law.specs.Sessions.{SessionsInOrder}
use Rattle.sl_words.proofs.CaseLaws.{false_is_true, some_value}
use Rattle.sl_examples.proofs.Ballots.HistoryRows.{begins, ended, found, itself, joins_is, last, newest, owner_same, accepts, readers, register, writers}
use Rattle.sl_examples.specs.Ballots.MadeHistories.{joins, one}
use Rattle.sl_examples.specs.Ballots.TwoAlive.{TwoAliveBreak, again, history, leads, lives, reads, writes}
use Rattle.sl_words.proofs.TableLaws.{each_row}
use Rattle.std.proofs.lemmas.Bool.{eqb-true}
use Rattle.std.proofs.Common.{Some, ap, arith, cond, false, inl, inr, refl, sym, true, ℕ, ◌&&◌, ◌<◌, ◌==◌, ◌∙◌, ◌≡◌, ◌≤◌, ◌⊎◌}

-- ---- sessions

-- The second session of host 1 joins at step 2, and the first sessions at the steps of their ids.
is_joined : (s : Owner) (j : ℕ) → lives.joined s ≡ Some j → ((s.generation ≡ 1) × (s.id ≡ j)) ⊎ ((s.id ≡ 1) × (s.generation ≡ 2) × (j ≡ 2))
is_joined s j = elim (s.id == 1) as (λ a. (s.id == 1) ≡ a → cond (a && s.generation == 2) (Some 2) (joins s) ≡ Some j → ((s.generation ≡ 1) × (s.id ≡ j)) ⊎ ((s.id ≡ 1) × (s.generation ≡ 2) × (j ≡ 2))) [
  | true ↦ λ a. elim (s.generation == 2) as (λ b. (s.generation == 2) ≡ b → cond b (Some 2) (joins s) ≡ Some j → ((s.generation ≡ 1) × (s.id ≡ j)) ⊎ ((s.id ≡ 1) × (s.generation ≡ 2) × (j ≡ 2))) [
    | true ↦ λ b h. inr (eqb-true s.id 1 a, eqb-true s.generation 2 b, sym (some_value 2 j h))
    | false ↦ λ b h. inl (joins_is s j h)
  ] refl
  | false ↦ λ a h. inl (joins_is s j h)
] refl

once : (s u : Owner) (j : ℕ) → history.joined s ≡ Some j → history.joined u ≡ Some j → s.id ≡ u.id → s ≡ u
once s u j p q id = elim (is_joined s j p) [
  | inl a ↦ elim (is_joined u j q) [ inl b ↦ owner_same s u id (a.0 ∙ sym b.0) | inr b ↦ absurd (omega (arith, a.1, b.0, b.2)) ]
  | inr a ↦ elim (is_joined u j q) [ inl b ↦ absurd (omega (arith, a.0, a.2, b.1)) | inr b ↦ owner_same s u id (a.1 ∙ sym b.1) ]
]

orders : SessionsInOrder history
orders = record {
  writers = writers lives writes reads leads refl;
  readers = readers lives writes reads leads refl;
  once = once;
  final = λ s t u over. absurd (false_is_true over);
  silent = λ s t e over. absurd (false_is_true over);
  settled = λ s t e a over. absurd (false_is_true over);
}

one_is_not_again : one ≡ again → ⊥
one_is_not_again e = let generation = ap (λ (s : Owner). s.generation) e in omega arith

-- ---- ballots

found_7 : IsFoundBlock history 7
found_7 = found lives writes reads leads 7 3 refl refl (omega arith) refl refl (omega arith)

last_11 : IsLastWrite history 11
last_11 = last lives writes reads leads 11 refl refl (omega arith) (omega arith)

found_15 : IsFoundBlock history 15
found_15 = found lives writes reads leads 15 4 refl refl (omega arith) refl refl (omega arith)

last_19 : IsLastWrite history 19
last_19 = last lives writes reads leads 19 refl refl (omega arith) (omega arith)

one_7 : IsPhase1 history 7
one_7 = begins lives writes reads leads 7 refl (omega arith)

two_11 : IsPhase2 history 11
two_11 = accepts lives writes reads leads 11 8 9 1 1 one_7 last_11 (refl, refl) (λ k. refl)
    (inl (itself lives writes reads leads 11 9 1 refl (omega arith))) (omega arith) (omega arith)

one_15 : IsPhase1 history 15
one_15 = begins lives writes reads leads 15 refl (omega arith)

two_19 : IsPhase2 history 19
two_19 = accepts lives writes reads leads 19 16 17 1 3 one_15 last_19 (refl, refl) (λ k. refl)
    (inl (itself lives writes reads leads 19 17 1 refl (omega arith))) (omega arith) (omega arith)

first : (t : ℕ) → 14 ≤ t → BallotEnded history one 1 one t
first t l = ended lives writes reads leads 11 12 13 1 1 t one one two_11 (refl, refl, refl, refl, refl) (λ k. refl)
    (omega arith) (omega arith)

second : (t : ℕ) → 22 ≤ t → BallotEnded history again 1 again t
second t l = ended lives writes reads leads 19 20 21 1 3 t again again two_19 (refl, refl, refl, refl, refl) (λ k. refl)
    (omega arith) (omega arith)

opens_7 : OpensBallot history 7
opens_7 = record { one = one_7; reason = Never_led refl }

opens_15 : OpensBallot history 15
opens_15 = record { one = one_15; reason = Never_led refl }

ballots : KeepsBallots history
ballots = record {
  base = each_row (λ e. IsLastWrite history e ⊎ IsFoundBlock history e) writes (inr found_7, (inl last_11, (inr found_15, (inl last_19, tt))));
  phase = each_row (Phase history) writes (Phase_1 opens_7, (Phase_2 two_11, (Phase_1 opens_15, (Phase_2 two_19, tt))));
}

up : GoesUp history
up e w one = each_row (λ e. (history.block (history.base e)).lver ≤ (history.block e).lver) writes (omega arith) e w

numbers : NumbersArePositive history
numbers e w one = each_row (λ e. 0 < (history.block e).mbal) writes (omega arith) e w

instances : KeepsInstances history
instances = record {
  leaders = each_row (λ l. BallotEnded history (history.leader l).owner (history.leader l).lver (history.leader l).owner l) leads
      tt;
  evidence = λ o s t j known. absurd (false_is_true known);
}

pub two_alive_break : TwoAliveBreak
two_alive_break = record {
  register = register lives writes reads leads (refl, refl, refl) refl refl;
  newest = newest lives writes reads leads refl;
  sessions = orders;
  ballots = ballots;
  up = up;
  numbers = numbers;
  instances = instances;
  fails = record { first = first 22 (omega arith); second = second 22 (omega arith); apart = one_is_not_again };
}
