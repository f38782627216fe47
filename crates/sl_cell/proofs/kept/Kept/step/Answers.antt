use Rattle.sl_cell.proofs.RestLaws.{rest_ready}
use Rattle.sl_cell.proofs.kept.Kept.step.Goals as goal

pub invariant_of-self-in-Ok : goal.invariant_of-self-in-Ok
invariant_of-self-in-Ok g c =
    let were = c.in_ok-reserve.ensures in
    let told = c.in-Ok.ensures in
    let left = c.note.ensures in
    let now = c.reserve-places.ensures in
    rest_ready g.J.Station.setting c.self.inside.lead.history c.step.new.self.history c.self.inside.handed c.in-Ok.signed c.into_entry.result c.in-Ok.effects c.self.inside.rest
    c.reserve.new.self c.note.new.self c.reserve-places.new.self c.self.invariant were.connections were.delta were.resource were.waits told.history told.told c.into_entry.ensures
    left.connections left.delta left.resource left.waits now.connections now.delta now.resource now.waits
