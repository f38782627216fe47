-- What the machine came to, with its pieces known, or not.
use Rattle.sl_own.proofs.SettleLaws.{are_pieces_of, settled_with, unpieced_ok, unpieced_stops}
use Rattle.sl_own.proofs.ends.finish.Goals as goal
use Rattle.std.proofs.Common.{◌+◌}

pub returns-then-are_own_pieces-clause-ok : goal.returns-then-are_own_pieces-clause-ok
returns-then-are_own_pieces-clause-ok g c =
    settled_with c.args.early c.args.ledger.now c.args.script c.args.place c.args.ran c.args.pieces.now c.settle-settled.result c.settle-settled.ensures.ok
    (are_pieces_of c.args.script c.args.place c.args.ran c.take_apart-writer.result.0 c.args.pieces.now c.take_apart-writer.ensures.writer (c.are_own_pieces.ensures c.if-are_own_pieces.true))

pub returns-else-are_own_pieces-clause-ok : goal.returns-else-are_own_pieces-clause-ok
returns-else-are_own_pieces-clause-ok g c = unpieced_ok c.settle-settled.result c.unpieced.result _ c.unpieced.ensures

pub returns-else-are_own_pieces-clause-stop : goal.returns-else-are_own_pieces-clause-stop
returns-else-are_own_pieces-clause-stop g c =
    unpieced_stops c.args.early (c.args.place + 1) c.args.ledger.now c.args.ran c.settle-settled.result c.unpieced.result c.unpieced.ensures c.settle-settled.ensures.stop
