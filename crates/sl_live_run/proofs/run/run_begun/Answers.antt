use Rattle.sl_live_run.proofs.RunLaws.{has_run_all}
use Rattle.sl_live_run.proofs.run.run_begun.Goals as goal
use Rattle.std.proofs.Common.{length}

pub returns : goal.returns
returns g c = λ sites same disks own.
    has_run_all g.A.Area.content g.A.Area.faults g.P.Spawner.acts c.args.events g.D.Daemon.stands g.D.Daemon.commands c.args.header.now sites disks c.args.begun.machines.items c.run_list-told.new.machines.items _ _ c.ended_early-early.result
    c.run_list-told.new.ledger c.run_list-told.new.writer c.run_list-told.result _ _ _ _ c.leave.result same own c.run_list-told.ensures.len c.requires.fresh c.run_list-told.ensures.each
    (c.run_list-told.ensures.told (length c.args.begun.machines.items) c.requires.given c.requires.writer) c.ended_early-early.ensures c.leave.ensures
