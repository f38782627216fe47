use Rattle.sl_tables.proofs.SlotsStand.{few_items}
use Rattle.sl_tables.proofs.rising.Rising.put.Goals as goal
use Rattle.std.proofs.Common.{length, subst, ◌≤◌}

pub returns-clause-few : goal.returns-clause-few
returns-clause-few g c =
    subst (λ v. length v.items ≤ v.next) c.self.view_is (few_items c.self.inside.next c.self.inside.slots.items c.self.invariant.0 c.self.invariant.1)
