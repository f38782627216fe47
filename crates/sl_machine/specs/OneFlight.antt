-- What is known of a call in flight.
use Rattle.sl_sector.specs.Records.{IsRecord}
use Rattle.sl_sector.specs.SectorLayouts.{IsSectorSize}
use Rattle.sl_sector.specs.declared.sector.Rec.{Rec}
use Rattle.std.specs.Prelude.{Bool, IfSome, Option, true, ℕ, ◌≡◌}

-- Its sectors are of one size, and what it writes is a record.
pub record IsFlight (size : ℕ) (write : Option Rec) (sized_all : Bool) : Type 0 where
  pub sized : IsSectorSize size
  pub same : sized_all ≡ true
  pub lawful : IfSome write IsRecord
