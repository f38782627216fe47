use Rattle.sl_live_run.proofs.RunLaws.{all_stop, all_whole}
use Rattle.sl_live_run.proofs.ends.end_all.Goals as goal

pub returns-in-Ok-clause-ok : goal.returns-in-Ok-clause-ok
returns-in-Ok-clause-ok g c =
    all_whole c.finish.result.0 c.args.early c.args.ledger.now c.args.writer c.args.machines.items c.in-Ok.rans.items c.args.pieces.now c.finish.result.1.items c.in-Ok.ensures c.finish.ensures.ok

pub returns-in-Ok-clause-err : goal.returns-in-Ok-clause-err
returns-in-Ok-clause-err g c = all_stop c.finish.result.0 c.args.early c.args.ledger.now c.args.machines.items c.in-Ok.rans.items c.in-Ok.ensures c.finish.ensures.err
