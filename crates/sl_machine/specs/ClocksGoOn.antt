-- Clocks that go on.
use Rattle.sl_machine.specs.declared.machine.Machine.{Machine}
use Rattle.sl_run.specs.Premises.{growth_of}
use Rattle.std.specs.Prelude.{List, Option, ℕ, ◌+◌}

-- The machine at a place later.
abbrev pub clock_later : {L : Type 0} → ℕ → Option (List ℕ) → ℕ × Machine L → Machine L
clock_later d growths p = record p.1 { clock = p.1.clock + growth_of d growths (p.0 + 1) }
