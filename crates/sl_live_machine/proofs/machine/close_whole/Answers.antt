use Rattle.sl_book.specs.Logs.{entries}
use Rattle.sl_live_machine.proofs.EndLaws.{ends_whole, on_whole}
use Rattle.sl_live_machine.proofs.machine.close_whole.Goals as goal
use Rattle.sl_live_machine.specs.ServedDisks.{AreOf}
use Rattle.sl_live_machine.specs.Printing.{lines_read}

pub returns-in-Ok-clause-goes : goal.returns-in-Ok-clause-goes
returns-in-Ok-clause-goes g c = λ t a so.
    ends_whole g.D.Daemon.stands g.J.Station.setting a (entries c.args.printer.now.mine) (lines_read c.args.printer.now.reader) c.check_lines.result
    (record { stood = c.in-Ok.ensures.stood; run = c.in-Ok.ensures.ok }) (c.check_lines.ensures.goes t a (entries c.args.printer.now.mine) so)

pub returns-in-Ok-clause-counts : goal.returns-in-Ok-clause-counts
returns-in-Ok-clause-counts g c =
    on_whole c.check_lines.result (AreOf g.J.Station.setting c.args.printer.now.mine c.args.seats.items) c.in-Ok.ensures.counts
