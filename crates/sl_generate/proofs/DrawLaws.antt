-- Draws are made modulo 2^64.
use Rattle.sl_report.specs.GeneratedSchedules.{next_state}
use Rattle.std.proofs.Common.{ℕ, ◌≡◌}
use Rattle.std.proofs.Math.Nat.{mod-add-mod}
use Rattle.std.specs.Prelude.{◌%◌, ◌*◌, ◌+◌, ◌^◌}

-- The product and the sum are cut one after the other.
pub one_step : (x : ℕ) → ((x * 6364136223846793005) % 2 ^ 64 + 1442695040888963407) % 2 ^ 64 ≡ next_state x
one_step x = mod-add-mod (x * 6364136223846793005) (2 ^ 64) 1442695040888963407
