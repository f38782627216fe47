-- Counts of faults.
use Rattle.std.specs.Prelude.{min, ℕ, ◌+◌, ◌-◌, ◌^◌}

-- One more, where a number of 64 bits can still rise.
abbrev pub one_more : ℕ → ℕ
one_more n = min (1 + n) (2 ^ 64 - 1)
