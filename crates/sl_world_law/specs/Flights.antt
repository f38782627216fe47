-- What an event changes in a call and on the disks, in a world and in what is kept of it.
use Rattle.sl_world_state.specs.KeptWorld.{KeptState}
use Rattle.sl_world_state.specs.SaneWorlds.{IsSane}
use Rattle.sl_world_state.specs.ShownWorlds.{Tells}
use Rattle.sl_world_law.specs.Changes.{IsKeptAt}
use Rattle.sl_run.specs.Refusals.{may_happen}
use Rattle.sl_run.specs.Worlds.{World}
use Rattle.sl_run.specs.declared.event.Event.TheVariants.{Do, DropWrite, Land, Sample, Tear}
use Rattle.sl_run.specs.declared.event.Event.{Event}
use Rattle.sl_run.specs.declared.header.Header.{Header}
use Rattle.sl_text.specs.Forms.{Form}
use Rattle.sl_trace.specs.declared.command.Command.{Command}
use Rattle.std.specs.Prelude.{List, true, ℕ, ◌≡◌}

-- Of an event that may happen.
abbrev pub IsKeptWhereAllowed : Event → Type 0
IsKeptWhereAllowed e =
    (commands : Header → List (Form Command)) (k : KeptState) (w : World) → Tells k w → IsSane commands w → may_happen w e ≡ true → IsKeptAt k w e

-- Reads that sample, writes that take effect whole or in part, or never will, and calls that are done.
pub record FlightsAreKept : Type 0 where
  pub samples : (m c n : ℕ) → IsKeptWhereAllowed (Sample m c n)
  pub lands : (m c : ℕ) → IsKeptWhereAllowed (Land m c)
  pub tears : (m c n : ℕ) (bytes : List ℕ) → IsKeptWhereAllowed (Tear m c n bytes)
  pub does : (m c : ℕ) → IsKeptWhereAllowed (Do m c)
  pub drops : (m c : ℕ) → IsKeptWhereAllowed (DropWrite m c)
