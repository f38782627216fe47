use Rattle.sl_host_work.proofs.BlocksStand.{block_written}
use Rattle.sl_host_work.proofs.lease_work.write_block.Goals as goal
use Rattle.std.proofs.Common.{refl}

pub returns-clause-state : goal.returns-clause-state
returns-clause-state c m found is =
    let a = c.args in
    block_written a.host.now.kept a.host.now c.write_own.new.host m a.who.now a.at.now a.work a.step a.block c.own_block-own.result refl (c.own_block-own.ensures.exact m found is) is c.write_own.ensures.state
