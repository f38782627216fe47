-- The machine ran beside the script.
use denote.Param.Send.{sendable}
use Rattle.sl_live_run.proofs.RunLaws.{changed_on}
use Rattle.sl_live_run.specs.Runs.{CanRun, Runs}
use Rattle.sl_own.proofs.run.run_beside.Goals as goal
use Rattle.std.proofs.Common.{subst, sym}

pub beside_one-requires-after_bounds : goal.beside_one-requires-after_bounds
beside_one-requires-after_bounds g c κs within =
    λ p is. (subst (CanRun g.P.Spawner.acts g.D.Daemon.commands c.args.header.now) (sym is) c.requires, search sendable depth 30)

pub returns-clause-ran : goal.returns-clause-ran
returns-clause-ran g c =
    let at = c.beside_one.ensures.ran in
    changed_on (Runs g.A.Area.content g.A.Area.faults g.P.Spawner.acts c.args.events g.D.Daemon.commands g.D.Daemon.stands c.args.header.now) _ _ _ _ at.argument_is at.left at.call
