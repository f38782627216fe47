-- What is left of a machine that has run.
use Rattle.sl_own.proofs.SettleLaws.{ended_ok, ended_stop, one_left}
use Rattle.sl_own.proofs.ends.end.Goals as goal
use Rattle.std.proofs.Common.{◌+◌}

pub returns-in-Ok-clause-ok : goal.returns-in-Ok-clause-ok
returns-in-Ok-clause-ok g c =
    ended_ok c.args.early c.args.ledger.now c.args.script c.args.place c.args.machine c.in-Some.ran c.args.pieces.now c.push.new.self.items c.finish-settled.result.0 c.in-Some.is
    (one_left c.new-all.result.items c.push.new.self.items c.finish-settled.result.1 c.in-Some.ran c.new-all.ensures.items c.in-Ok.ensures.items c.finish-settled.ensures.remains)
    c.finish-settled.ensures.ok

pub returns-in-Ok-clause-stop : goal.returns-in-Ok-clause-stop
returns-in-Ok-clause-stop g c =
    ended_stop c.args.early (c.args.place + 1) c.args.ledger.now c.args.machine c.in-Some.ran c.finish-settled.result.0 c.in-Some.is c.finish-settled.ensures.stop
