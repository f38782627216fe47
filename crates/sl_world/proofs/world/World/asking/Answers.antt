-- The first place of a machine with an ask that is due.
use Rattle.sl_world.proofs.DueAsks.{few_machines, first_due}
use Rattle.sl_world.proofs.world.World.asking.Goals as goal
use Rattle.std.proofs.Common.{◌∙◌}

pub first_due-requires : goal.first_due-requires
first_due-requires g c =
    few_machines g.L.LockTable.locks g.D.Daemon.commands g.D.Daemon.stands c.args.self.now.kept c.args.self.now.hosts c.as_slice.result.now c.as_slice.ensures.value c.requires

pub returns : goal.returns
returns g c = c.first_due.ensures ∙ first_due g.L.LockTable.locks c.args.self.now.kept c.as_slice.result.now c.as_slice.ensures.value
