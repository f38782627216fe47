-- Where the memory for a step's replies is enough for each.
use Rattle.std.proofs.Common.{arith, min, suc, zero, ℕ, ◌+◌, ◌≡◌, ◌≤◌}

-- One list of a and one of b elements, where there was memory for those before.
pub enough : (a b m room first longest : ℕ) → m + min 1 (a + b) ≤ 1 → (m ≡ 0 → room ≡ first) → longest ≤ first → a ≤ longest → a ≤ room
enough zero b m room first longest one same most short = omega arith
enough (suc a) b m room first longest one same most short =
    let none : m ≡ 0 = omega (arith, one) in
    let is = same none in
    omega (arith, is, most, short)
