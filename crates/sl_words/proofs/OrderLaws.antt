-- Cases of numbers by their order, and induction on all smaller numbers.
use Rattle.std.proofs.Common.{arith, inl, inr, suc, zero, ℕ, ◌+◌, ◌<◌, ◌≡◌, ◌≤◌, ◌⊎◌}
use Rattle.std.proofs.lemmas.Bool.{cases_lt}

-- Smaller, or the same.
pub less_or_same : (k n : ℕ) → k ≤ n → (k < n) ⊎ (k ≡ n)
less_or_same k n le = elim (cases_lt k n) [ inl lt ↦ inl lt | inr ge ↦ inr (omega arith) ]

-- Below one more than a number: below it, or the number itself.
pub below_or_last : (k n : ℕ) → k < n + 1 → (k < n) ⊎ (k ≡ n)
below_or_last k n lt = less_or_same k n (omega arith)

-- The same, or not.
pub same_or_apart : (i j : ℕ) → (i ≡ j) ⊎ (i ≡ j → ⊥)
same_or_apart i j =
    elim (cases_lt i j) [
      | inl lt ↦ inr (λ e. omega arith)
      | inr ge ↦ elim (less_or_same j i ge) [ inl gt ↦ inr (λ e. omega arith) | inr e ↦ inl (omega arith) ]
    ]

all_below : (P : ℕ → Type 0) → ((n : ℕ) → ((k : ℕ) → k < n → P k) → P n) → (n k : ℕ) → k < n → P k
all_below P step zero k lt = absurd (omega arith)
all_below P step (suc n) k lt = step k (λ i less. all_below P step n i (omega arith))

-- What holds of a number once it holds of all smaller ones, holds of each.
pub by_smaller : (P : ℕ → Type 0) → ((n : ℕ) → ((k : ℕ) → k < n → P k) → P n) → (n : ℕ) → P n
by_smaller P step n = step n (all_below P step n)
