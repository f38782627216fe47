-- Whom a pass over holders comes to next.
use Rattle.sl_tables.specs.declared.holdings.Holder.TheVariants.{Above, Is}
use Rattle.sl_tables.specs.declared.holdings.Sought.{Sought}
use Rattle.sl_trace.specs.declared.effects.Spot.{Spot}
use Rattle.std.specs.Prelude.{None, Some, ℕ}

-- The holdings under the session of processes above this one: an orphan has process 0, so it is none of them.
abbrev pub above : ℕ → ℕ → Sought
above session last = record { holder = Above last; session = Some session; spot = None; mode = None }

-- The orphans on an area.
abbrev pub orphan_on : Spot → Sought
orphan_on at = record { holder = Is 0; session = None; spot = Some at; mode = None }
