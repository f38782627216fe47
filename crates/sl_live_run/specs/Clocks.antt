-- The first readings of machines.
use Rattle.sl_run.specs.Worlds.{clock_reading}
use Rattle.sl_run.specs.declared.header.FirstReading.{FirstReading}
use Rattle.sl_run.specs.declared.header.Header.{Header}
use Rattle.std.specs.Prelude.{List, min, [], ⊤, ℕ, ◌+◌, ◌-◌, ◌^◌, ◌∷◌, ◌≡◌}

-- A clock's reading as a header may have it: itself where it is below 10^12, else the greatest number that is.
abbrev pub as_first : ℕ → ℕ
as_first reading = min reading (10 ^ 12 - 1)

-- What the clocks of machine m and of those behind it read last.
abbrev pub readings_from : {C : Type 0} → (C → ℕ) → ℕ → List C → List FirstReading
readings_from last m [] = []
readings_from last m (c ∷ cs) = record { machine = m; reading = as_first (last c) } ∷ readings_from last (m + 1) cs

-- The header with these readings in place of its own.
abbrev pub with_readings : List FirstReading → Header → Header
with_readings readings h = record h { clocks = readings }

-- The header's first reading of machine m, and of each machine behind it, is what its clock read last.
abbrev pub AreTicks : {C : Type 0} → (C → ℕ) → Header → ℕ → List C → Type 0
AreTicks last h m [] = ⊤
AreTicks last h m (c ∷ cs) = (clock_reading h m ≡ as_first (last c)) × AreTicks last h (m + 1) cs
