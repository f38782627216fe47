use Rattle.sl_locks.proofs.StepLaws.{step_is, told_is}
use Rattle.sl_locks.proofs.table.LvmLocks.turn.Goals as goal
use Rattle.sl_locks.specs.Steps.{is_asked, turned_by}
use Rattle.sl_locks.specs.Tables.{locks_of}
use Rattle.sl_locks.specs.declared.table.LvmLocks.{LvmLocks}
use Rattle.sl_run.specs.Locks.{Locks, Told}
use Rattle.std.proofs.Common.{ap, refl, ◌∙◌}
use Rattle.std.specs.List.{find}

pub returns-clause-stays : goal.returns-clause-stays
returns-clause-stays c =
    let k = locks_of c.take_number.new.self in
    ap (λ (p : Locks × Told). p.0) (c.turn_numbered.ensures.left
    ∙ step_is c.args.number c.args.input c.args.told.now.effects c.args.self.now c.leave.new.self k (turned_by c.args.input (find (is_asked k.asked) c.args.told.now.effects.replies) k)
    c.leave.ensures.left (ap locks_of c.take_number.ensures) refl)

pub returns-clause-line : goal.returns-clause-line
returns-clause-line c =
    let k = locks_of c.take_number.new.self in
    ap (λ (p : Locks × Told). p.1) (c.turn_numbered.ensures.left
    ∙ step_is c.args.number c.args.input c.args.told.now.effects c.args.self.now c.leave.new.self k (turned_by c.args.input (find (is_asked k.asked) c.args.told.now.effects.replies) k)
    c.leave.ensures.left (ap locks_of c.take_number.ensures) refl)

pub returns-clause-effects : goal.returns-clause-effects
returns-clause-effects c =
    c.turn_numbered.ensures.effects
    ∙ told_is c.args.number c.args.input c.args.told.now.effects c.args.self.now c.leave.new.self c.take_number.new.self.asked c.leave.ensures.left (ap (λ (t : LvmLocks). t.asked) c.take_number.ensures)
