use Rattle.sl_live_run.proofs.RunLaws.{all_mapped, can_run, no_run_all, ready_given}
use Rattle.sl_live_run.proofs.run.run_ready.Goals as goal
use Rattle.sl_outside.specs.Acts.{Tells}
use Rattle.std.proofs.Common.{[], ◌∙◌}

pub returns-in_default : goal.returns-in_default
returns-in_default g c = no_run_all g.V.Area.Area.content g.V.Area.Area.faults g.V.Spawner.Spawner.acts c.args.events g.D.Daemon.stands g.D.Daemon.commands c.args.header.now _ _ _ _ _ _ _ _ c.no_run.result c.no_run.ensures.replies c.no_run.ensures.put

pub returns-in_default-begin : goal.returns-in_default-begin
returns-in_default-begin g c =
    no_run_all g.V.Area.Area.content g.V.Area.Area.faults g.V.Spawner.Spawner.acts c.args.events g.D.Daemon.stands g.D.Daemon.commands c.args.header.now _ _ _ _ _ _ _ _ c.no_run-in_default-begin.result c.no_run-in_default-begin.ensures.replies
    c.no_run-in_default-begin.ensures.put

pub returns-in_default-script_writer : goal.returns-in_default-script_writer
returns-in_default-script_writer g c =
    no_run_all g.V.Area.Area.content g.V.Area.Area.faults g.V.Spawner.Spawner.acts c.args.events g.D.Daemon.stands g.D.Daemon.commands c.args.header.now _ _ _ _ _ _ _ _ c.no_run-in_default-script_writer.result c.no_run-in_default-script_writer.ensures.replies
    c.no_run-in_default-script_writer.ensures.put

pub run_begun-requires-clause-settings : goal.run_begun-requires-clause-settings
run_begun-requires-clause-settings g c κs within =
    can_run g.V.Spawner.Spawner.acts g.D.Daemon.commands c.args.header.now c.in-Ok-begin.begun.machines.items _ _ c.in-Ok-begin.ensures.sites c.in-Ok-begin.ensures.spawners
    c.in-Ok-begin.ensures.fresh c.requires.header c.requires.settings (all_mapped (λ p. p.parts.spawner) (λ p. Tells (g.V.Spawner.Spawner.acts p) []) c.args.prepared.items c.requires.unasked)

pub run_begun-requires-clause-given : goal.run_begun-requires-clause-given
run_begun-requires-clause-given g c κs within =
    ready_given c.in-Ok.ledger c.in-Ok-begin.begun.machines.items c.args.prepared.items (λ p. p.site) c.len.result c.in-Ok.ensures (c.len.ensures ∙ c.args.prepared.ok.0)
    c.in-Ok-begin.ensures.sites

pub returns : goal.returns
returns g c = c.run_begun.ensures _ c.in-Ok-begin.ensures.sites _ c.in-Ok-begin.ensures.disks
