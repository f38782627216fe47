use Rattle.sl_live_run.specs.Runs.{disks_in, remains_of}
use Rattle.sl_own.proofs.PlayLaws.{beginning, owes_run_own}
use Rattle.sl_own.proofs.play.play_as.Goals as goal
use Rattle.sl_own.proofs.WatchLaws.{has_lived, rests_behind}
use Rattle.sl_own.specs.OwnOwed.{HasLived, ReadsOwn}
use Rattle.sl_reader.specs.HeaderBegins.{HeaderBegins}
use Rattle.sl_reader.specs.Scopes.{own_scope}
use Rattle.sl_reader.specs.ScriptReading.{IsScript, ReadsScriptBy, ScriptState}
use Rattle.sl_reader.specs.declared.live_lines.LiveLine.{LiveLine}
use Rattle.std.proofs.Common.{List, ap, map, subst, sym, ◌∙◌}

pub returns-clause-owes : goal.returns-clause-owes
unfolding beginning
returns-clause-owes g c disks folder lent first h ground may begins =
    let there : HeaderBegins first g.J.Origin.left g.J.Origin.began h =
    subst (λ r. HeaderBegins first g.J.Origin.left r h) c.requires.began
    (subst (λ l. HeaderBegins first l c.args.reader h) c.requires.left begins) in
    let has : ScriptState → List LiveLine → Type 0 = IsScript g.J.Origin.keeps g.J.Origin.left g.J.Origin.faults g.J.Origin.began g.J.Origin.scope in
    let m = c.args.manner.machine in
    let reads : (given : List LiveLine) → has c.run_own-run.new.lines given
    → ReadsOwn c.args.manner first (g.S.Source.left c.close-source.result.0) (g.S.Source.faults c.args.source) (g.S.Source.faults c.close-source.result.0) h given c.close-source.result.1
    = λ given so.
    subst (λ keeps. ReadsScriptBy (own_scope h m) keeps first (g.S.Source.left c.close-source.result.0) (g.S.Source.faults c.args.source) (g.S.Source.faults c.close-source.result.0) h given c.close-source.result.1) (sym c.requires.keeps)
    (subst (λ n. ReadsScriptBy (own_scope h m) g.J.Origin.keeps first (g.S.Source.left c.close-source.result.0) n (g.S.Source.faults c.close-source.result.0) h given c.close-source.result.1) (sym c.requires.faults)
    (subst (λ x. ReadsScriptBy x g.J.Origin.keeps first (g.S.Source.left c.close-source.result.0) g.J.Origin.faults (g.S.Source.faults c.close-source.result.0) h given c.close-source.result.1)
    (sym c.requires.scope ∙ ap (λ x. own_scope x m) ground.same) (c.close-source.ensures.script first h given there so))) in
    let run = c.run_own-run.ensures in
    owes_run_own g.D.Daemon.stands g.D.Daemon.commands (record { content = g.V.Area.Area.content; faults = g.V.Area.Area.faults; acts = g.V.Spawner.Spawner.acts }) disks folder c.args.manner first _ _ _ _ _ _ _ _ _ lent _ h
    (beginning _ _ disks folder h m lent _ c.args.ground ground) (disks_in c.args.ground.ready.parts) (has c.new-lines.result) (has c.run_own-run.new.lines) run.pieces
    c.run_own-run.result.machines (map remains_of c.run_own-run.result.remains.items) c.run_own-run.result.replies c.close-source.result.1 c.put_run-lived.result (g.V.Devices.lendings c.args.devices.now) c.new-lines.ensures.none reads may ground.had
    c.give_all_back.ensures run.ok run.stop
    (c.put_run-lived.ensures.ok (g.K.Sink.taken c.args.sink) (g.K.Sink.faults c.args.sink) run.pieces run.put)
    (c.put_run-lived.ensures.stop (g.K.Sink.taken c.args.sink) (g.K.Sink.faults c.args.sink) run.pieces run.put)

pub returns-clause-rests : goal.returns-clause-rests
unfolding beginning
returns-clause-rests g c asked disks folder lent h ground may opened =
    let has : ScriptState → List LiveLine → Type 0 = IsScript g.J.Origin.keeps g.J.Origin.left g.J.Origin.faults g.J.Origin.began g.J.Origin.scope in
    let run = c.run_own-run.ensures in
    rests_behind g.V.Watchdog.Watchdog.path g.V.Watchdog.Watchdog.rested asked (HasLived g.D.Daemon.stands g.D.Daemon.commands (record { content = g.V.Area.Area.content; faults = g.V.Area.Area.faults; acts = g.V.Spawner.Spawner.acts }) disks folder lent (g.V.Devices.lendings c.give_all_back.new.devices) c.args.manner.machine) _ _ _ _ run.pieces
    c.run_own-run.result.replies c.is_ok.result c.args.watchdog c.rest_if-watchdog.result c.put_run-lived.result opened c.is_ok.ensures.value c.rest_if-watchdog.ensures.path
    c.rest_if-watchdog.ensures.rests c.rest_if-watchdog.ensures.stays
    (has_lived (record { content = g.V.Area.Area.content; faults = g.V.Area.Area.faults; acts = g.V.Spawner.Spawner.acts }) c.args.manner.events g.D.Daemon.stands g.D.Daemon.commands disks folder h c.args.manner.machine (beginning _ _ disks folder h c.args.manner.machine lent _ c.args.ground ground)
    (disks_in c.args.ground.ready.parts) (has c.new-lines.result) (has c.run_own-run.new.lines) run.pieces c.run_own-run.result.machines (map remains_of c.run_own-run.result.remains.items) c.run_own-run.result.replies
    lent (g.V.Devices.lendings c.args.devices.now) (g.V.Devices.lendings c.give_all_back.new.devices) may ground.had c.give_all_back.ensures run.ok)
    (c.put_run-lived.ensures.stop (g.K.Sink.taken c.args.sink) (g.K.Sink.faults c.args.sink) run.pieces run.put)
