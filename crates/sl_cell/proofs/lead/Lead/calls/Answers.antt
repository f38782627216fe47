use Rattle.sl_cell.proofs.LeadLaws.{calls_most}
use Rattle.sl_cell.proofs.lead.Lead.calls.Goals as goal

pub returns : goal.returns
returns g c = λ part. rw (← c.self.view_is) (calls_most part g.J.Station.setting c.self.inside.front c.self.inside.next.call c.self.invariant.calls)
