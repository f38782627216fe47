-- Orders and equalities of numbers under the names that proofs give them where a step wants a lemma and not arithmetic.
use Rattle.std.proofs.Common.{arith, inl, inr, tests}
use Rattle.std.proofs.lemmas.Bool.Decides.{nat_tests}
use Rattle.std.proofs.lemmas.Bool.{cases_lt}
use Rattle.std.specs.Prelude.{false, nat_le, suc, true, ℕ, ◌*◌, ◌+◌, ◌-◌, ◌<◌, ◌==◌, ◌≡◌, ◌≤◌}

pub number_itself : (n : ℕ) → (n == n) ≡ true
number_itself n = grind (arith, nat_tests)

pub number_turned : (a b : ℕ) → (a == b) ≡ true → (b == a) ≡ true
number_turned a b h = grind (arith, tests)

pub less_is_other : (a b : ℕ) → a < b → (a == b) ≡ false
less_is_other a b h = grind (arith, tests)

pub le_itself : (n : ℕ) → nat_le n n ≡ true
le_itself n = grind (arith, nat_tests)

pub refl_le : (n : ℕ) → n ≤ n
refl_le n = omega arith

pub trans_le : (a b c : ℕ) → a ≤ b → b ≤ c → a ≤ c
trans_le a b c h k = omega (arith, h, k)

pub trans_lt : (a b c : ℕ) → a < b → b < c → a < c
trans_lt a b c h k = omega (arith, h, k)

pub lt_then_le : (a b c : ℕ) → a < b → b ≤ c → a < c
lt_then_le a b c h k = omega (arith, h, k)

pub lt_up_to : (a b c : ℕ) → a < b → b ≤ c → a ≤ c
lt_up_to a b c h k = omega (arith, h, k)

pub less_is_most : (a b : ℕ) → a < b → a ≤ b
less_is_most a b h = omega (arith, h)

pub both_ways : (a b : ℕ) → a ≤ b → b ≤ a → a ≡ b
both_ways a b h k = omega (arith, h, k)

pub never_below : (a b : ℕ) → a ≤ b → b < a → ⊥
never_below a b h k = omega (arith, h, k)

pub equal_is_most : (a b : ℕ) → a ≡ b → a ≤ b
equal_is_most a b h = omega (arith, h)

pub equal_is_least : (a b : ℕ) → b ≡ a → a ≤ b
equal_is_least a b h = omega (arith, h)

pub zero_is_least : (a b : ℕ) → a ≡ 0 → a ≤ b
zero_is_least a b h = omega (arith, h)

pub zero_least : (n : ℕ) → 0 ≤ n
zero_least n = omega arith

pub zero_less : (n : ℕ) → 0 < suc n
zero_less n = omega arith

pub one_least : (n : ℕ) → 1 ≤ n + 1
one_least n = omega arith

pub above_zero : (a b : ℕ) → a < b → 0 < b
above_zero a b h = omega (arith, h)

pub below_next : (a b : ℕ) → a < b + 1 → a ≤ b
below_next a b h = omega (arith, h)

pub below_suc : (a b : ℕ) → a < suc b → a ≤ b
below_suc a b h = omega (arith, h)

pub next_is_most : (a b : ℕ) → a < b → a + 1 ≤ b
next_is_most a b h = omega (arith, h)

pub less_than_suc : (a b : ℕ) → a < b → a < suc b
less_than_suc a b h = omega (arith, h)

pub both_next : (a b : ℕ) → a < b → suc a < suc b
both_next a b h = omega (arith, h)

pub less_than_next : (n : ℕ) → n < n + 1
less_than_next n = omega arith

pub below_itself_suc : (n : ℕ) → n < suc n
below_itself_suc n = omega arith

pub one_before : (n : ℕ) → suc n - 1 ≡ n
one_before n = omega arith

pub one_less : (n : ℕ) → 1 + n - 1 ≡ n
one_less n = omega arith

pub one_again : (n : ℕ) → 1 ≤ n → 1 + (n - 1) ≡ n
one_again n h = omega (arith, h)

pub back_again : (n : ℕ) → 1 ≤ n → n - 1 + 1 ≡ n
back_again n h = omega (arith, h)

pub plus_zero : (n : ℕ) → n ≡ n + 0
plus_zero n = omega arith

pub no_times_more : (n k : ℕ) → n + 0 * k ≡ n
no_times_more n k = omega arith

pub no_times : (n : ℕ) → 0 * n ≡ 0
no_times n = omega arith

pub one_times : (n : ℕ) → 1 * n ≡ n
one_times n = omega arith

pub none_off : (n k : ℕ) → k ≡ 0 → n - k ≡ n
none_off n k h = omega (arith, h)

pub one_further : (a n : ℕ) → a + 1 + n ≡ a + suc n
one_further a n = omega arith

pub at_least_first : (a b : ℕ) → a ≤ a + b
at_least_first a b = omega arith

pub one_index : (a b : ℕ) → (a < b → ⊥) → (b < a → ⊥) → a ≡ b
one_index a b p q =
    elim (cases_lt a b) [
      | inl lt ↦ absurd (p lt)
      | inr ge ↦ elim (cases_lt b a) [ inl gt ↦ absurd (q gt) | inr le ↦ omega (arith, ge, le) ]
    ]
