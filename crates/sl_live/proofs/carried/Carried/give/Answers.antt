use Rattle.sl_book.specs.Logs.{entries}
use Rattle.sl_cell.specs.Histories.{Signed}
use Rattle.sl_live.proofs.CarriedLaws.{both_true, give_carried, one_more}
use Rattle.sl_live.proofs.carried.Carried.give.Goals as goal
use Rattle.sl_live.specs.CarriedOut.{AreCarried}
use Rattle.std.proofs.Common.{List, subst, sym, ◌∙◌}

pub invariant_of-self : goal.invariant_of-self
invariant_of-self g c = λ whole.
    let k = c.self.inside in
    let last = both_true c.follow-next.result c.both-before.result (sym c.both-whole.ensures ∙ whole) in
    let first = both_true k.whole c.is_childless-childless.result (sym c.both-before.ensures ∙ last.1) in
    subst (λ (l : List Signed). AreCarried g.P.Spawner.acts (entries l) k.taken k.killed c.give_step.new.children) (sym c.follow-next.ensures.moved)
    (give_carried g.P.Spawner.acts g.P.Spawner.faults g.P.Spawner.running g.J.Station.setting (g.C.Clock.last c.give_step.new.clock) c.args.input c.in-Ok-Some.effects k.front k.taken k.killed k.children
    c.give_step.new.children c.args.seat.now c.give_step.new.seat (sym c.is_childless-childless.ensures ∙ first.1) (rw c.in-Ok-Some.field-0-is at c.in-Ok-Some.ensures.ok)
    (c.follow-next.ensures.behind last.0) (one_more k.front c.give_step.new.seat.front c.follow-next.result c.follow-next.ensures.next last.0) (c.self.invariant first.0))

pub invariant_of-self-in-Ok-None : goal.invariant_of-self-in-Ok-None
invariant_of-self-in-Ok-None g c = λ whole.
    let k = c.self.inside in
    let passed = rw c.in-Ok-None.field-0-is at c.in-Ok-None.ensures.ok in
    subst (λ x. AreCarried g.P.Spawner.acts (entries k.front) k.taken k.killed x) (sym passed.1) (c.self.invariant whole)
