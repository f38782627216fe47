use Rattle.sl_book.specs.Logs.{entries}
use Rattle.sl_cell.specs.Histories.{Signed}
use Rattle.sl_live.proofs.CarriedLaws.{both_true, counted_more, for_some, one_more, start_made}
use Rattle.sl_live.proofs.carried.Carried.tell_start.Goals as goal
use Rattle.sl_live.specs.CarriedOut.{AreCarried, CarriedState}
use Rattle.sl_live.specs.Turns.{ChildrenState, MakesTurn, TellsStart}
use Rattle.sl_live.specs.declared.children.Awaited.{Awaited}
use Rattle.std.proofs.Common.{List, ap, subst, sym, ◌∙◌, ◌≡◌}
use Rattle.std.specs.Prelude.{IsSomeAnd}

pub invariant_of-self : goal.invariant_of-self
invariant_of-self g c = λ whole.
    let k = c.self.inside in
    let last = both_true c.follow-next.result c.both-before.result (sym c.both-whole.ensures ∙ whole) in
    let first = both_true k.whole c.both-fits.result (sym c.both-before.ensures ∙ last.1) in
    let fits = both_true c.both-due.result c.is_made-made.result (sym c.both-fits.ensures ∙ first.1) in
    let due = both_true c.is_of-first.result c.is_one_more-counted.result (sym c.both-due.ensures ∙ fits.0) in
    let told = c.in-Ok.told in
    subst (λ (l : List Signed). AreCarried g.P.Spawner.acts (entries l) c.taken-taken.result k.killed c.spawned_step.new.children) (sym c.follow-next.ensures.moved)
    (start_made g.P.Spawner.acts g.P.Spawner.faults g.P.Spawner.running g.J.Station.setting (g.C.Clock.last c.spawned_step.new.clock) c.args.process c.args.child told.ok told.effects k.front k.taken c.taken-taken.result
    k.killed k.children c.spawned_step.new.children c.args.seat.now c.spawned_step.new.seat (sym c.is_made-made.ensures ∙ fits.1)
    (subst (λ o. IsSomeAnd o (λ (w : Awaited). w.start.process ≡ c.args.process)) c.next.ensures (for_some c.args.process c.next.result c.is_of-first.result c.is_of-first.ensures due.0))
    (counted_more k.taken c.taken-taken.result c.is_one_more-counted.result c.is_one_more-counted.ensures due.1)
    c.in-Ok.ensures.ok (c.follow-next.ensures.behind last.0) (one_more k.front c.spawned_step.new.seat.front c.follow-next.result c.follow-next.ensures.next last.0) (c.self.invariant first.0))

pub returns-in-Ok-clause-ok : goal.returns-in-Ok-clause-ok
returns-in-Ok-clause-ok g c =
    let P = g.row.P.Denot in
    let told = c.in-Ok.told in
    let turn = MakesTurn g.P.Spawner.acts g.P.Spawner.faults g.P.Spawner.running g.J.Station.setting (g.C.Clock.last c.spawned_step.new.clock) told.effects in
    subst (λ (x : ChildrenState P). TellsStart g.P.Spawner.acts g.P.Spawner.faults g.P.Spawner.running c.args.process c.args.child told.ok turn x c.spawned_step.new.children c.args.seat.now
    c.spawned_step.new.seat) (ap (λ (k : CarriedState P). k.children) c.self.view_is) c.in-Ok.ensures.ok
