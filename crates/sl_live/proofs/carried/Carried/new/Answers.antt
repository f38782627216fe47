use Rattle.sl_book.specs.Logs.{entries}
use Rattle.sl_cell.specs.Histories.{Signed}
use Rattle.sl_live.proofs.CarriedLaws.{new_carried}
use Rattle.sl_live.proofs.carried.Carried.new.Goals as goal
use Rattle.sl_live.specs.Turns.{ChildrenState}
use Rattle.sl_outside.specs.Acts.{Tells}
use Rattle.std.proofs.Common.{List, [], ap, subst, sym}

pub invariant_of-result : goal.invariant_of-result
invariant_of-result g c = λ whole.
    let n = c.new.ensures in
    let children = c.new.result in
    new_carried g.P.Spawner.acts g.P.Spawner.faults g.P.Spawner.running (entries c.args.front) children (ap (λ (h : List Signed). entries h) c.requires.front)
    (subst (λ p. Tells (g.P.Spawner.acts p) []) (sym (ap (λ (x : ChildrenState g.row.P.Denot). x.spawner) n)) c.requires.spawner)
    (ap (λ (x : ChildrenState g.row.P.Denot). x.numbers) n) (ap (λ (x : ChildrenState g.row.P.Denot). x.awaited) n)
