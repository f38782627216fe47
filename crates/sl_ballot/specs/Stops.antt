-- What stops a ballot, by the blocks that were found.
use Rattle.sl_trace.specs.declared.lease.Stop.TheVariants.{BlockAhead, BlockRival}
use Rattle.sl_trace.specs.declared.lease.Stop.{Stop}
use Rattle.sl_sector.specs.declared.sector.Block.{Block}
use Rattle.std.specs.Prelude.{None, Option, Some, option_map}

-- The block ahead, else the rival.
abbrev pub stop_by : Option Block → Option Block → Option Stop
stop_by (Some b) rival = Some (BlockAhead b.host b.lver)
stop_by None rival = option_map (λ b. BlockRival b.host b.mbal) rival
