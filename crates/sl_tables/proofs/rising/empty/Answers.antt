use Rattle.sl_tables.proofs.SlotsStand.{stands_at, written}
use Rattle.sl_tables.proofs.rising.empty.Goals as goal
use Rattle.std.proofs.Common.{None}

pub returns-clause-slots : goal.returns-clause-slots
returns-clause-slots g c = written c.args.slots.now.items c.args.index c.index_mut.result.now None c.requires c.index_mut.ensures.value

pub returns-clause-found : goal.returns-clause-found
returns-clause-found g c =
    let s = c.index_mut.result.now in
    (s.0, s.1, stands_at c.args.slots.now.items c.args.index s c.requires c.index_mut.ensures.value, c.is_some-stood.ensures)
