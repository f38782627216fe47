use Rattle.sl_sector.proofs.PairLaws.{block_paired, block_refused}
use Rattle.sl_sector.proofs.pair_bytes.pair_at.Goals as goal

pub returns-in-Ok : goal.returns-in-Ok
returns-in-Ok c = block_paired c.args.sector.now c.in-Ok.block c.paired.result c.in-Ok.ensures c.paired.ensures

pub returns-in-Err : goal.returns-in-Err
returns-in-Err c = block_refused c.args.sector.now c.in-Err.bad c.in-Err.ensures
