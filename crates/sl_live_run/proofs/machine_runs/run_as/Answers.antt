use Rattle.sl_live_run.proofs.RunLaws.{no_run_of}
use Rattle.sl_live_run.proofs.machine_runs.run_as.Goals as goal
use Rattle.std.proofs.Common.{ap, sym, ◌∙◌}

pub returns-in_default-clause-goes : goal.returns-in_default-clause-goes
returns-in_default-clause-goes g c =
    no_run_of g.A.Area.content g.A.Area.faults g.P.Spawner.acts c.args.shared.now.header.now.geometry.sector g.D.Daemon.stands _ _ _ c.args.work.parts.delta.items
    c.args.work.parts.resource.items c.not_run.result c.not_run.ensures.end
    (ap (λ s. s.by) c.not_run.ensures.writer ∙ c.requires.fresh.writer ∙ sym (ap (λ r. r.by) c.not_run.ensures.reader))
