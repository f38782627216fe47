-- Kill programs of processes.
use Rattle.sl_trace.specs.KillPrograms.{KillProgram}
use Rattle.std.specs.List.{AllByRecursion}
use Rattle.std.specs.Prelude.{List, [], false, map, nat_eq, reverse, ℕ, ◌∷◌, ◌≡◌}

-- The one set last first; for how many more there is memory.
pub record ProgramsState : Type 0 where
  pub programs : List KillProgram
  pub room : ℕ

-- A process with its program.
abbrev pub program_at : ℕ × List ℕ → KillProgram
program_at p = record { process = p.0; program = p.1 }

-- The programs by process, the one set first first.
abbrev pub programs_of : List (ℕ × List ℕ) → List KillProgram
programs_of entries = reverse (map program_at entries)

-- A process has one program.
abbrev pub AreApart : List (ℕ × List ℕ) → Type 0
AreApart [] = Unit {0}
AreApart (p ∷ ps) = AllByRecursion (λ q. nat_eq p.0 q.0 ≡ false) ps × AreApart ps
