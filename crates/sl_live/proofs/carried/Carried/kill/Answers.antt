use Rattle.sl_book.specs.Logs.{entries}
use Rattle.sl_live.proofs.CarriedLaws.{carried_kill}
use Rattle.sl_live.proofs.carried.Carried.kill.Goals as goal

pub invariant_of-self : goal.invariant_of-self
invariant_of-self g c = λ whole.
    let k = c.self.inside in
    carried_kill g.P.Spawner.acts g.P.Spawner.faults g.P.Spawner.running (entries k.front) k.taken k.killed k.children c.kill.new.self c.kill.ensures.does c.kill.ensures.numbers c.kill.ensures.awaited
    (c.self.invariant whole)
