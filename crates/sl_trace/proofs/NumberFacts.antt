-- The least k*N + id above a number.
use Rattle.std.proofs.Common.{arith}
use Rattle.std.proofs.Math.Nat.{div-add-mod, mul-le-mul_left}
use Rattle.std.proofs.lemmas.Bool.Decides.{nat_tests}
use Rattle.std.proofs.lemmas.Bool.{cases_lt}
use Rattle.std.specs.Prelude.{false, if◌then◌else◌, nat_lt, refl, true, ℕ, ◌*◌, ◌+◌, ◌-◌, ◌/◌, ◌<◌, ◌≡◌, ◌≤◌}
use Rattle.sl_trace.specs.BallotLaws.{NumbersAreLeast}
use Rattle.sl_trace.specs.Ballots.{number_above}
use mathlib.Core.Logic.{inl, inr}

number-above : (hosts id top : ℕ) → 1 ≤ id → id ≤ hosts → top < number_above hosts id top
number-above hosts id top one le = grind (arith, nat_tests)

number-own : (hosts id top : ℕ) → 1 ≤ id → id ≤ hosts → (k : ℕ) × (number_above hosts id top ≡ id + hosts * k)
number-own hosts id top one le =
    elim (nat_lt top id) as (λ b. (k : ℕ) × ((if b then id else id + hosts * ((top - id) / hosts + 1)) ≡ id + hosts * k)) [
      | true ↦ (0, omega arith)
      | false ↦ ((top - id) / hosts + 1, refl)
    ]

-- Steps that are not above: as many steps as lead to a number above the top are more than those that the quotient counts.
few-steps : (hosts gap k : ℕ) → gap < hosts * k → gap / hosts + 1 ≤ k
few-steps hosts gap k lt =
    elim (cases_lt (gap / hosts) k) [
      | inl few ↦ omega arith
      | inr many ↦ absurd (let more : hosts * k ≤ hosts * (gap / hosts) = mul-le-mul_left hosts many in omega (arith, div-add-mod gap hosts))
    ]

number-least : (hosts id top k : ℕ) → 1 ≤ id → id ≤ hosts → top < id + hosts * k → number_above hosts id top ≤ id + hosts * k
number-least hosts id top k one le lt =
    elim (cases_lt top id) [
      | inl low ↦ grind (arith, nat_tests)
      | inr high ↦
          let few : (top - id) / hosts + 1 ≤ k = few-steps hosts (top - id) k (omega arith) in
          let product : hosts * ((top - id) / hosts + 1) ≤ hosts * k = mul-le-mul_left hosts few in
          grind (arith, nat_tests)
    ]

pub numbers_are_least : NumbersAreLeast
numbers_are_least = record { above = number-above; own = number-own; least = number-least }
