use denote.Param.Send.{sendable}
use Rattle.sl_live_run.proofs.RunLaws.{changed_on}
use Rattle.sl_live_run.proofs.beside.run_all.Goals as goal
use Rattle.sl_live_run.specs.Runs.{CanRun, Runs}
use Rattle.std.proofs.Common.{subst, sym}

pub run_beside-requires-after_bounds : goal.run_beside-requires-after_bounds
run_beside-requires-after_bounds g c κs within =
    λ i p lt is.
    (subst (CanRun g.P.Spawner.acts g.D.Daemon.commands c.args.shared.now.header.now) (sym is) (c.requires i p.now lt), search sendable depth 30)

pub returns-clause-each : goal.returns-clause-each
returns-clause-each g c = λ k d lt.
    let at = (c.run_beside.ensures.each k d lt).1 in
    changed_on (Runs g.A.Area.content g.A.Area.faults g.P.Spawner.acts c.args.shared.now.events g.D.Daemon.commands g.D.Daemon.stands c.args.shared.now.header.now) _ _ _ _ at.argument_is at.left at.call
