-- One candidate after another is tried.
use Rattle.sl_generate.proofs.DrawnEvents.{first_taken, never_barred, passed_over, same_still}
use Rattle.sl_generate.proofs.generator.take_first.Goals as goal
use Rattle.sl_generate.specs.Candidates.{first_allowed}
use Rattle.sl_play.specs.Plays.{Answers, state_of}
use Rattle.sl_run.specs.declared.event.Event.TheVariants.{Pass}
use Rattle.std.proofs.Common.{None, ap, subst, ◌∙◌}

pub loop-event-preserved : goal.loop-event-preserved
loop-event-preserved g c =
    let p = state_of g.L.LockTable.locks c.args.play.now in
    let q = state_of g.L.LockTable.locks c.loop-event.play in
    let n = state_of g.L.LockTable.locks c.happen.new.self in
    let barred = subst (Answers g.D.Daemon.commands g.D.Daemon.stands q c.in-Some.event c.loop-event.out.items n c.happen.new.out.items) c.in-Some-2.is c.in_ok-happen.ensures.ok in
    record {
      same = same_still g.D.Daemon.commands g.D.Daemon.stands p q n c.loop-event.invariant.same barred.same;
      found = c.loop-event.invariant.found ∙ ap (first_allowed g.D.Daemon.commands p.kept) c.in-Some.ensures.items
          ∙ passed_over g.D.Daemon.commands g.D.Daemon.stands p q n c.in-Some.event c.loop-event.out.items c.happen.new.out.items c.loop-event.invariant.same c.requires c.in-Some-2.field-0
          c.pop_front.new.self.items barred;
    }

pub returns-in-None : goal.returns-in-None
returns-in-None g c =
    let p = state_of g.L.LockTable.locks c.args.play.now in
    let q = state_of g.L.LockTable.locks c.loop-event.play in
    let n = state_of g.L.LockTable.locks c.happen.new.self in
    first_taken g.D.Daemon.commands g.D.Daemon.stands p q n c.in-Some.event c.loop-event.out.items c.happen.new.out.items c.loop-event.invariant.same c.requires c.args.candidates.items
    c.pop_front.new.self.items (c.loop-event.invariant.found ∙ ap (first_allowed g.D.Daemon.commands p.kept) c.in-Some.ensures.items)
    (subst (Answers g.D.Daemon.commands g.D.Daemon.stands q c.in-Some.event c.loop-event.out.items n c.happen.new.out.items) c.in-None.is c.in_ok-happen.ensures.ok)

pub unreachable-requires : goal.unreachable-requires
unreachable-requires g c =
    let q = state_of g.L.LockTable.locks c.loop-event.play in
    let n = state_of g.L.LockTable.locks c.happen-2.new.self in
    never_barred g.D.Daemon.commands g.D.Daemon.stands (state_of g.L.LockTable.locks c.args.play.now) q n c.loop-event.out.items c.happen-2.new.out.items c.in-Some-3.field-0
    c.loop-event.invariant.same c.requires
    (subst (Answers g.D.Daemon.commands g.D.Daemon.stands q (Pass 0 None) c.loop-event.out.items n c.happen-2.new.out.items) c.in-Some-3.is c.in_ok-happen-2.ensures.ok)
