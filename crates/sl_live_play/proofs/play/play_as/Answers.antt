use Rattle.sl_reader.specs.Scopes.{scope_of}
use Rattle.sl_live_play.proofs.MachineBeginnings.{as_many, beginnings}
use Rattle.sl_live_play.proofs.LivePlayOwed.{owes_run}
use Rattle.sl_live_play.proofs.play.play_as.Goals as goal
use Rattle.sl_reader.specs.ScriptReading.{IsScript, ReadsScript, ReadsScriptBy, ScriptState}
use Rattle.sl_reader.specs.HeaderBegins.{HeaderBegins}
use Rattle.sl_reader.specs.declared.live_lines.LiveLine.{LiveLine}
use Rattle.std.proofs.Common.{List, ap, subst, sym, ◌∙◌}

pub returns : goal.returns
unfolding beginnings
returns g c f lent first h ground had begins vacant =
    let there : HeaderBegins first g.J.Origin.left g.J.Origin.began h =
    subst (λ r. HeaderBegins first g.J.Origin.left r h) c.requires.began
    (subst (λ l. HeaderBegins first l c.args.reader h) c.requires.left begins) in
    let has : ScriptState → List LiveLine → Type 0 = IsScript g.J.Origin.keeps g.J.Origin.left g.J.Origin.faults g.J.Origin.began g.J.Origin.scope in
    let reads : (given : List LiveLine) → has c.run_machines-run.new.lines given
    → ReadsScript c.args.manner.keeps first (g.S.Source.left c.close-source.result.0) (g.S.Source.faults c.args.source) (g.S.Source.faults c.close-source.result.0) h given c.close-source.result.1
    = λ given so.
    subst (λ keeps. ReadsScript keeps first (g.S.Source.left c.close-source.result.0) (g.S.Source.faults c.args.source) (g.S.Source.faults c.close-source.result.0) h given c.close-source.result.1) (sym c.requires.keeps)
    (subst (λ n. ReadsScript g.J.Origin.keeps first (g.S.Source.left c.close-source.result.0) n (g.S.Source.faults c.close-source.result.0) h given c.close-source.result.1) (sym c.requires.faults)
    (subst (λ x. ReadsScriptBy x g.J.Origin.keeps first (g.S.Source.left c.close-source.result.0) g.J.Origin.faults (g.S.Source.faults c.close-source.result.0) h given c.close-source.result.1)
    (sym c.requires.scope ∙ ap scope_of ground.same) (c.close-source.ensures.script first h given there so))) in
    let run = c.run_machines-run.ensures.run in
    owes_run g.D.Daemon.stands g.D.Daemon.commands (record { content = g.V.Area.Area.content; faults = g.V.Area.Area.faults; acts = g.V.Spawner.Spawner.acts }) f c.args.manner first _ _ _ _ _ _ _ _ _ lent _ h (beginnings _ _ _ _ _ h c.args.ground ground) _ (has c.new-lines.result) (has c.run_machines-run.new.lines) run.pieces
    c.run_machines-run.result.0.machines _ c.run_machines-run.result.0.replies c.close-source.result.1 c.put_run-lived.result
    (record { counted = as_many c.args.ground; between = g.V.Devices.lendings c.args.devices.now; had = had; returned = c.give_all_back.ensures }) c.new-lines.ensures.none reads vacant run.ok run.stop
    (c.put_run-lived.ensures.ok (g.K.Sink.taken c.args.sink) (g.K.Sink.faults c.args.sink) run.pieces run.put)
    (c.put_run-lived.ensures.stop (g.K.Sink.taken c.args.sink) (g.K.Sink.faults c.args.sink) run.pieces run.put)
