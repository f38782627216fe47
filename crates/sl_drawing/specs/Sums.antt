-- Sums of positions, which stay within 64 bits.
use Rattle.std.specs.Prelude.{min, ℕ, ◌*◌, ◌+◌, ◌-◌, ◌/◌, ◌^◌}

abbrev pub plus : ℕ → ℕ → ℕ
plus a b = min (a + b) (2 ^ 64 - 1)

abbrev pub minus : ℕ → ℕ → ℕ
minus a b = a - b

abbrev pub times : ℕ → ℕ → ℕ
times a b = min (a * b) (2 ^ 64 - 1)

-- So many letters, five and a half each.
abbrev pub letters : ℕ → ℕ
letters count = times count 11 / 2
