use Rattle.sl_host_work.proofs.EndsStand.{is_removed}
use Rattle.sl_host_work.proofs.ends.remove_connection.Goals as goal

pub returns-then-is_connected-clause-state : goal.returns-then-is_connected-clause-state
returns-then-is_connected-clause-state c = is_removed c.args.host.now c.move_on.new.self c.args.lockspace.now c.is_connected.result c.is_connected.ensures c.if-is_connected.true c.move_on.ensures.state
