-- Numbers of ballots: the least k*N + id above all that are known.
use Rattle.sl_trace.specs.Ballots.{number_above}
use Rattle.std.specs.Prelude.{ℕ, ◌*◌, ◌+◌, ◌<◌, ◌≡◌, ◌≤◌}

-- The number of a host among N is above what it was made from, leaves the host's remainder, and none of the host's own lies between.
pub record NumbersAreLeast : Type 0 where
  pub above : (hosts id top : ℕ) → 1 ≤ id → id ≤ hosts → top < number_above hosts id top
  pub own : (hosts id top : ℕ) → 1 ≤ id → id ≤ hosts → (k : ℕ) × (number_above hosts id top ≡ id + hosts * k)
  pub least : (hosts id top k : ℕ) → 1 ≤ id → id ≤ hosts → top < id + hosts * k → number_above hosts id top ≤ id + hosts * k
