use Rattle.sl_cell.proofs.LeadLaws.{lead_new}
use Rattle.sl_cell.proofs.lead.Lead.new.Goals as goal

pub invariant_of-result : goal.invariant_of-result
invariant_of-result g c =
    lead_new g.D.Daemon.stands g.D.Daemon.commands g.J.Station.setting c.in_ok-begin.field-0 c.args.header.now c.args.site c.args.front c.greatest_renewed-reading.result
    c.as_slice.result.now c.requires.site c.requires.setting c.in_ok-begin.ensures c.requires.front c.greatest_renewed-reading.ensures c.as_slice.ensures
