use Rattle.sl_cell.proofs.LeadLaws.{greatest_more}
use Rattle.sl_cell.proofs.lead.greatest_renewed.Goals as goal

pub loop-session-preserved : goal.loop-session-preserved
loop-session-preserved c =
    greatest_more c.args.given.now c.loop-session.session-index c.session-item.result c.loop-session.reading c.max-reading.result c.loop-session-test.true c.session-item.is
    c.loop-session.invariant c.max-reading.ensures
