use Rattle.sl_schedule.proofs.EventLaws.{early_made, late_made}
use Rattle.sl_schedule.proofs.events.read_form.Goals as goal

pub returns-in-Some : goal.returns-in-Some
returns-in-Some c = early_made c.args.machines c.args.sector c.args.line.now c.in-Some.event c.in_ok-event.field-0 c.in_ok-event.ensures c.in-Some.is

pub returns-in-None : goal.returns-in-None
returns-in-None c =
    late_made c.args.machines c.args.sector c.args.line.now c.in_ok-event.field-0 c.read_late.result c.in_ok-event.ensures c.in-None.is
    (c.read_late.ensures c.args.machines c.args.sector)
