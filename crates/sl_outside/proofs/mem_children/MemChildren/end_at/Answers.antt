use Rattle.sl_outside.proofs.ChildLaws.{same_numbers}
use Rattle.sl_outside.proofs.mem_children.MemChildren.end_at.Goals as goal
use Rattle.std.proofs.Common.{rules}

pub returns-in-Some-clause-numbers : goal.returns-in-Some-clause-numbers
returns-in-Some-clause-numbers c =
    let same = same_numbers c.self.inside.items.items c.in-Some.at c.index_mut.result.now c.index_mut.result.now c.index_mut.ensures.value in
    search rules
