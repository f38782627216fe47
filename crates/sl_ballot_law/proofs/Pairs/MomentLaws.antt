-- Runs of two steps at a moment.
use Rattle.sl_ballot_law.specs.Pairs.State.{State}
use Rattle.sl_ballot_law.specs.Pairs.Steps.{Step}
use Rattle.sl_ballot_law.specs.Pairs.Theorems.{RunsOfTwoAreRuns}
use Rattle.std.proofs.Common.{arith, refl, subst, suc, sym, zero, ℕ, ◌+◌, ◌≡◌}

-- The values of the first and of the second, in turn.
abbrev in_turn : (ℕ → State) → (ℕ → State) → ℕ → State
in_turn a b zero = a zero
in_turn a b (suc n) = in_turn b (λ m. a (suc m)) n

turn_steps : (a b : ℕ → State) → ((m : ℕ) → Step (a m) (b m)) → ((m : ℕ) → Step (b m) (a (suc m))) → (n : ℕ) → Step (in_turn a b n) (in_turn a b (suc n))
turn_steps a b p q zero = p zero
turn_steps a b p q (suc n) = turn_steps b (λ m. a (suc m)) q (λ m. p (suc m)) n

one_more : (m : ℕ) → m + 1 ≡ suc m
one_more m = omega arith

turn_even : (a b : ℕ → State) (m : ℕ) → in_turn a b (m + m) ≡ a m
turn_even a b zero = refl
turn_even a b (suc m) = subst (λ (n : ℕ). in_turn a b n ≡ a (suc m)) (double m) (turn_even (λ k. a (suc k)) (λ k. b (suc k)) m)
  where
    double : (m : ℕ) → suc (suc (m + m)) ≡ suc m + suc m
    double m = omega arith

pub of_two : RunsOfTwoAreRuns
of_two r between u = (
  in_turn r between,
  record {
    start = u.start;
    step = λ n. subst (λ (k : ℕ). Step (in_turn r between n) (in_turn r between k)) (sym (one_more n))
        (turn_steps r between u.one (λ m. subst (λ (k : ℕ). Step (between m) (r k)) (one_more m) (u.two m)) n);
  },
  turn_even r between,
)
