-- The machine runs, or there was no memory.
use Rattle.sl_live_run.proofs.GivenLaws.{no_lines}
use Rattle.sl_own.proofs.OwnLaws.{no_run_own, run_as_ready}
use Rattle.sl_own.proofs.run.run_ready.Goals as goal
use Rattle.sl_outside.specs.Acts.{Tells}
use Rattle.sl_run.specs.Lawful.{IsSetting}
use Rattle.sl_world_state.specs.Daemons.{begun_with}
use Rattle.std.proofs.Common.{[], subst, sym}

pub returns-in_default : goal.returns-in_default
returns-in_default g c =
    no_run_own g.V.Area.Area.content g.V.Area.Area.faults g.V.Spawner.Spawner.acts c.args.events g.D.Daemon.stands g.D.Daemon.commands c.args.header.now c.args.place _ _ _ _ _ _ _ _ c.no_run.result
    c.no_run.ensures.replies c.no_run.ensures.put

pub returns-in_default-open_posts : goal.returns-in_default-open_posts
returns-in_default-open_posts g c =
    no_run_own g.V.Area.Area.content g.V.Area.Area.faults g.V.Spawner.Spawner.acts c.args.events g.D.Daemon.stands g.D.Daemon.commands c.args.header.now c.args.place _ _ _ _ _ _ _ _
    c.no_run-in_default-open_posts.result c.no_run-in_default-open_posts.ensures.replies c.no_run-in_default-open_posts.ensures.put

pub run_with-requires-clause-setting : goal.run_with-requires-clause-setting
run_with-requires-clause-setting g c κs within =
    subst (λ s. IsSetting (begun_with g.D.Daemon.commands c.args.header.now s)) (sym c.work_of-work.ensures.site) c.requires.setting

pub run_with-requires-clause-unasked : goal.run_with-requires-clause-unasked
run_with-requires-clause-unasked g c κs within = subst (λ p. Tells (g.V.Spawner.Spawner.acts p.spawner) []) (sym c.work_of-work.ensures.parts) c.requires.unasked

pub run_with-requires-clause-given : goal.run_with-requires-clause-given
run_with-requires-clause-given g c κs within = no_lines c.in-Ok.ledger _ c.in-Ok.ensures

pub returns : goal.returns
returns g c =
    run_as_ready g.V.Area.Area.content g.V.Area.Area.faults g.V.Spawner.Spawner.acts c.args.events g.D.Daemon.stands g.D.Daemon.commands c.args.header.now c.args.place c.work_of-work.result _ _ _ _ _ _ _ _ _
    c.work_of-work.ensures.site c.work_of-work.ensures.parts c.run_with.ensures
