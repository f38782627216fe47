-- What is seen of devices in memory for live machines.
use Rattle.sl_io.specs.Planned.{Planned}
use Rattle.sl_outside.specs.Lendings.{Lending}
use Rattle.std.specs.Prelude.{List, Option}

-- The plan of `make`, with the faults, and what was handed out and what came back.
pub record SharedState : Type 0 where
  pub makes : Planned
  pub notes : Option (List Lending)
