use Rattle.sl_book.specs.Logs.{entries}
use Rattle.sl_book.specs.Mails.{ReaderState}
use Rattle.sl_book.specs.Seats.{SeatState}
use Rattle.sl_book.specs.declared.signed.Signed.{Signed}
use Rattle.sl_live_lines.specs.AuditedHistory.{IsAudit}
use Rattle.sl_live_lines.specs.EventTexts.{first_telling}
use Rattle.sl_live_lines.specs.LocksAlong.{begun_along}
use Rattle.sl_live_lines.specs.declared.given_lines.GivenLine.{GivenLine}
use Rattle.sl_live_machine.proofs.EndLaws.{has_not_run}
use Rattle.sl_live_machine.proofs.PrintLaws.{begins_printing}
use Rattle.sl_live_machine.proofs.machine.run_machine.Goals as goal
use Rattle.sl_live_machine.specs.Printing.{lines_read}
use Rattle.sl_trace.specs.declared.effects.Entry.{Entry}
use Rattle.std.proofs.Common.{List, [], ap, subst, sym, ℕ, ◌∙◌}

pub returns-in-Err-clause-goes : goal.returns-in-Err-clause-goes
returns-in-Err-clause-goes g c =
    has_not_run g.A.Area.content g.A.Area.faults g.P.Spawner.acts c.args.header.now.geometry.sector g.D.Daemon.stands g.J.Station.setting (first_telling c.args.desk.now.events c.args.header.now.timing c.args.site.given)
    (begun_along c.args.header.now c.args.site.first.job) c.args.parts.delta.items c.args.parts.resource.items _ c.not_run.ensures.end
    (ap (λ (s : SeatState (List ℕ)). s.by) c.not_run.ensures.writer ∙ c.requires.writer.0 ∙ sym (ap (λ (r : ReaderState GivenLine). r.by) c.not_run.ensures.reader))

pub returns-clause-goes : goal.returns-clause-goes
returns-clause-goes g c =
    let t = first_telling c.args.desk.now.events c.args.header.now.timing c.args.site.given in
    let a = begun_along c.args.header.now c.args.site.first.job in
    let p = c.new-printer.result in
    c.run_room.ensures.goes t a
    (begins_printing t a (entries p.mine) p (ap (λ (h : List (Signed Entry)). entries h) (c.new-printer.ensures.mine ∙ c.again.ensures ∙ c.in-Ok.ensures.front))
    (subst (IsAudit t a []) (sym c.new-printer.ensures.audit) c.in-Ok.ensures.audit)
    (ap (λ (s : SeatState (List ℕ)). s.by) c.new-printer.ensures.writer ∙ c.requires.writer.0 ∙ sym (ap (λ (r : ReaderState GivenLine). r.by) c.new-printer.ensures.reader))
    (ap (λ (s : SeatState (List ℕ)). s.count) c.new-printer.ensures.writer ∙ c.requires.writer.1)
    (ap (λ (r : ReaderState GivenLine). lines_read r) c.new-printer.ensures.reader ∙ c.requires.reader) c.new-printer.ensures.text c.new-printer.ensures.wrong)
