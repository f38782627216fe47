use Rattle.sl_outside.proofs.ChildLaws.{taken}
use Rattle.sl_outside.proofs.mem_children.MemChildren.take.Goals as goal
use Rattle.std.proofs.Common.{rules}
use Rattle.std.specs.Prelude.{length, ◌<◌}

pub returns-clause-told : goal.returns-clause-told
returns-clause-told c =
    let within : c.in_ok-at.field-0 < length c.self.inside.items.items = search rules in
    let less = taken c.self.inside.items.items c.remove-child.new.self.items c.in_ok-at.field-0 c.remove-child.result within c.remove-child.ensures.value
    c.remove-child.ensures.items in
    search rules
