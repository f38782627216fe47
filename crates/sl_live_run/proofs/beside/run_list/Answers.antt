use Rattle.sl_live_run.proofs.RunLaws.{lent_back}
use Rattle.sl_live_run.proofs.beside.run_list.Goals as goal
use Rattle.sl_live_run.specs.Runs.{Runs}
use Rattle.sl_live_run.specs.declared.machine_runs.Machine.{Machine}
use Rattle.std.proofs.Common.{List, ap, length, slice_index_or, subst, sym, ◌∙◌, ◌<◌}

pub returns-clause-len : goal.returns-clause-len
returns-clause-len g c =
    let lent = c.as_mut_slice.ensures.value in
    ap length (lent_back c.args.machines.now.items c.as_mut_slice.result.now c.run_all.new.machines _ c.args.machines.now.len c.args.machines.now.ok.0 lent c.run_all.ensures.len)
    ∙ c.run_all.ensures.len ∙ ap length lent

pub returns-clause-each : goal.returns-clause-each
returns-clause-each g c = λ k d lt.
    let lent = c.as_mut_slice.ensures.value in
    let back = lent_back c.args.machines.now.items c.as_mut_slice.result.now c.run_all.new.machines _ c.args.machines.now.len c.args.machines.now.ok.0 lent c.run_all.ensures.len in
    let Run : List (Machine g.row.C.Denot g.row.P.Denot g.row.V.Denot g.row.A.Denot g.row.O.Denot g.row.T.Denot) → List (Machine g.row.C.Denot g.row.P.Denot g.row.V.Denot g.row.A.Denot g.row.O.Denot g.row.T.Denot) → Type 0 =
    λ old new. Runs g.A.Area.content g.A.Area.faults g.P.Spawner.acts c.args.shared.now.events g.D.Daemon.commands g.D.Daemon.stands c.args.shared.now.header.now
    (slice_index_or old k d) (slice_index_or new k d) in
    subst (λ new. Run c.args.machines.now.items new) (sym back)
    (subst (λ old. Run old c.run_all.new.machines) lent (c.run_all.ensures.each k d (subst (λ xs. k < length xs) (sym lent) lt)))
