-- What the lines of a run tell of what is held.
use Rattle.sl_held.specs.HeldRows.{held_on}
use Rattle.sl_picture.specs.HeldBars.{after_lines}
use Rattle.sl_report.specs.Reports.{run_lines}
use Rattle.sl_run.specs.Conflicts.{Holding, world_holdings}
use Rattle.sl_run.specs.Runs.{AfterEachFront, Happening}
use Rattle.sl_run.specs.Safety.{LawfulRun, world_at}
use Rattle.sl_run.specs.Worlds.{Machine, Program, World, machine_at, world_with}
use Rattle.sl_run.specs.declared.header.Header.{Header}
use Rattle.sl_text.specs.Names.{is_name}
use Rattle.sl_trace.specs.EffectTexts.{of_resource}
use Rattle.sl_trace.specs.Traces.{held_by, same_place}
use Rattle.sl_trace.specs.declared.effects.Grant.{Grant}
use Rattle.std.specs.Prelude.{Contains, IsTrue, List, Some, length, [], ℕ, ◌<◌, ◌^◌, ◌≡◌}

-- The names are names, and the numbers have 64 bits, as each value of the program has it.
pub record IsSpelt (g : Grant) : Type 0 where
  pub lockspace : IsTrue (is_name g.lockspace)
  pub resource : IsTrue (is_name g.resource)
  pub process : g.process < 2 ^ 64
  pub instance : g.lver < 2 ^ 64

-- What is held at one time under one name is one place.
pub record NamesTell (w : World) : Type 0 where
  pub spelt : (a : Holding) → Contains (world_holdings w) a → IsSpelt a.held
  pub place : (a b : Holding) → Contains (world_holdings w) a → Contains (world_holdings w) b →
      of_resource a.held.lockspace a.held.resource ≡ of_resource b.held.lockspace b.held.resource →
      IsTrue (same_place a.held.path a.held.offset b.held.path b.held.offset)

-- No process holds a place twice.
abbrev pub HoldsOnce : World → Type 0
HoldsOnce w =
    (m : ℕ) (a : Machine) (g : Grant) → machine_at w m ≡ Some a → Contains a.holdings g → length (held_by a.holdings g.process g.path g.offset) ≡ 1

-- The lines that a lawful run tells, in which names tell places, leave just what is held.
abbrev pub LinesTellHoldings : Type 0
LinesTellHoldings =
    (p : Program) (h : Header) (xs : List Happening) → LawfulRun p h xs → AfterEachFront xs (λ now. HoldsOnce (world_at p h now)) →
    AfterEachFront xs (λ now. NamesTell (world_at p h now)) →
    (m : ℕ) → after_lines m (run_lines (world_with p h) xs) [] ≡ held_on (world_at p h xs) m
