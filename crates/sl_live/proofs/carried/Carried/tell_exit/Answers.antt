use Rattle.sl_book.specs.Logs.{entries}
use Rattle.sl_cell.specs.Histories.{Signed}
use Rattle.sl_live.proofs.CarriedLaws.{both_true, carried_same, exit_made, one_more, quiet_grows}
use Rattle.sl_live.proofs.carried.Carried.tell_exit.Goals as goal
use Rattle.sl_live.specs.CarriedOut.{AreCarried, CarriedState}
use Rattle.sl_live.specs.Turns.{ChildrenState, MakesTurn, TellsExit}
use Rattle.std.proofs.Common.{List, ap, subst, sym, ◌∙◌}

pub invariant_of-self : goal.invariant_of-self
invariant_of-self g c = λ whole.
    let k = c.self.inside in
    let last = both_true c.follow-next.result c.both-before.result (sym c.both-whole.ensures ∙ whole) in
    let first = both_true k.whole c.is_made-made.result (sym c.both-before.ensures ∙ last.1) in
    let gone = c.in-Ok-Some.gone in
    subst (λ (l : List Signed). AreCarried g.P.Spawner.acts (entries l) k.taken k.killed c.child_step.new.children) (sym c.follow-next.ensures.moved)
    (exit_made g.P.Spawner.acts g.P.Spawner.faults g.P.Spawner.running g.J.Station.setting (g.C.Clock.last c.child_step.new.clock) gone.process gone.effects k.front k.taken k.killed k.children
    c.child_step.new.children c.args.seat.now c.child_step.new.seat (sym c.is_made-made.ensures ∙ first.1) (rw c.in-Ok-Some.field-0-is at c.in-Ok-Some.ensures.looks)
    (c.follow-next.ensures.behind last.0) (one_more k.front c.child_step.new.seat.front c.follow-next.result c.follow-next.ensures.next last.0) (c.self.invariant first.0))

pub invariant_of-self-in-Ok-None : goal.invariant_of-self-in-Ok-None
invariant_of-self-in-Ok-None g c = λ whole.
    let k = c.self.inside in
    let idle = rw c.in-Ok-None.field-0-is at c.in-Ok-None.ensures.looks in
    carried_same g.P.Spawner.acts g.P.Spawner.faults g.P.Spawner.running (entries k.front) k.taken k.killed k.children c.child_step.new.children
    (quiet_grows g.P.Spawner.acts g.P.Spawner.faults g.P.Spawner.running k.children.spawner c.child_step.new.children.spawner idle.quiet) idle.numbers idle.awaited (c.self.invariant whole)

pub returns-in-Ok-Some-clause-looks : goal.returns-in-Ok-Some-clause-looks
returns-in-Ok-Some-clause-looks g c =
    let P = g.row.P.Denot in
    let turn = MakesTurn g.P.Spawner.acts g.P.Spawner.faults g.P.Spawner.running g.J.Station.setting (g.C.Clock.last c.child_step.new.clock) c.in-Ok-Some.gone.effects in
    subst (λ (x : ChildrenState P). TellsExit g.P.Spawner.acts g.P.Spawner.faults g.P.Spawner.running c.in-Ok-Some.gone.process turn x c.child_step.new.children c.args.seat.now
    c.child_step.new.seat) (ap (λ (k : CarriedState P). k.children) c.self.view_is) (rw c.in-Ok-Some.field-0-is at c.in-Ok-Some.ensures.looks)
