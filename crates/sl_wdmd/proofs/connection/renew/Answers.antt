use Rattle.sl_wdmd.proofs.MappedLists.{mapped_all, mapped_one}
use Rattle.sl_wdmd.proofs.connection.renew.Goals as goal
use Rattle.sl_trace.specs.WatchdogConnections.{renewed_connection}
use Rattle.std.proofs.Common.{arith}

pub loop-index-preserved : goal.loop-index-preserved
loop-index-preserved c =
    let l = c.args.connections.now.ok in
    let i = c.loop-index.invariant in (
      mapped_one (renewed_connection c.args.name c.args.expiry) c.args.connections.now.items c.loop-index.connections.items c.loop-index.index _ c.renew.new.self i.0
          (omega (arith, l)) c.index_mut.ensures.value c.renew.ensures,
      i.1,
      i.2,
    )

pub returns-clause-items : goal.returns-clause-items
returns-clause-items c =
    let l = c.args.connections.now.ok in
    mapped_all (renewed_connection c.args.name c.args.expiry) c.args.connections.now.items c.loop-index.connections.items c.loop-index.index c.loop-index.invariant.0 (omega (arith, l))
