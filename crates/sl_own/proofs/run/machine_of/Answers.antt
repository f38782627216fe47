-- It is the one that was fresh.
use Rattle.sl_own.proofs.OwnLaws.{can_run_one}
use Rattle.sl_own.proofs.run.machine_of.Goals as goal

pub returns-clause-can : goal.returns-clause-can
returns-clause-can g c =
    can_run_one g.P.Spawner.acts g.D.Daemon.commands c.args._header.now c.args.work c.new.result c.new.ensures c.requires.header c.requires.setting c.requires.fresh c.requires.unasked
