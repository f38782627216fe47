-- Plain facts of numbers.
use Rattle.std.proofs.Common.{arith}
use Rattle.std.specs.Prelude.{false, true, ℕ, ◌==◌, ◌≡◌}

-- Numbers that a test finds the same are the same.
pub same_number : (a b : ℕ) → (a == b) ≡ true → a ≡ b
same_number a b is = grind arith

-- Numbers that a test finds apart are so turned round.
pub number_apart : (a b : ℕ) → (a == b) ≡ false → (b == a) ≡ false
number_apart a b is = grind arith
