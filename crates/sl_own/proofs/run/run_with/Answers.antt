-- What the machine, its script and the comparison say of the run.
use Rattle.sl_own.proofs.OwnLaws.{has_run_own}
use Rattle.sl_own.proofs.run.run_with.Goals as goal
use Rattle.std.proofs.Common.{◌+◌}

pub returns : goal.returns
returns g c =
    has_run_own g.A.Area.content g.A.Area.faults g.P.Spawner.acts c.args.events g.D.Daemon.stands g.D.Daemon.commands c.args.header.now c.args.place c.args.work c.machine_of-machine.result
    c.run_beside-told.new.machine _ _ c.ended_early-early.result c.run_beside-told.new.ledger c.run_beside-told.new.writer c.run_beside-told.result _ _ _ _ c.leave.result
    c.machine_of-machine.ensures.work c.requires.by c.run_beside-told.ensures.ran
    (c.run_beside-told.ensures.told (c.args.place + 1) c.requires.given c.requires.writer) c.ended_early-early.ensures c.leave.ensures
