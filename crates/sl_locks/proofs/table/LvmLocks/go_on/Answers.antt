use Rattle.sl_locks.proofs.table.LvmLocks.go_on.Goals as goal
use Rattle.sl_locks.specs.Tables.{course_of, locks_of, lvm_of}
use Rattle.sl_run.specs.Lvm.{goes_on_with}
use Rattle.sl_run.specs.Locks.{after_turn}
use Rattle.std.proofs.Common.{ap, sym, ◌∙◌}

pub returns-in-Acquiring : goal.returns-in-Acquiring
unfolding goes_on_with
returns-in-Acquiring c =
    c.after_acquiring.ensures
    ∙ ap (λ s. after_turn (locks_of c.args.self.now) (goes_on_with (lvm_of c.args.self.now) c.args.reply (course_of c.args.self.now.refused s))) (sym c.in-Acquiring.is)

pub returns-in-Writing : goal.returns-in-Writing
unfolding goes_on_with
returns-in-Writing c =
    c.after_writing.ensures
    ∙ ap (λ s. after_turn (locks_of c.args.self.now) (goes_on_with (lvm_of c.args.self.now) c.args.reply (course_of c.args.self.now.refused s))) (sym c.in-Writing.is)

pub returns-in-Reading : goal.returns-in-Reading
unfolding goes_on_with
returns-in-Reading c =
    c.after_reading.ensures
    ∙ ap (λ s. after_turn (locks_of c.args.self.now) (goes_on_with (lvm_of c.args.self.now) c.args.reply (course_of c.args.self.now.refused s))) (sym c.in-Reading.is)

pub returns-in-Releasing : goal.returns-in-Releasing
unfolding goes_on_with
returns-in-Releasing c =
    c.after_releasing.ensures
    ∙ ap (λ s. after_turn (locks_of c.args.self.now) (goes_on_with (lvm_of c.args.self.now) c.args.reply (course_of c.args.self.now.refused s))) (sym c.in-Releasing.is)

pub returns-in-Moving : goal.returns-in-Moving
unfolding goes_on_with
returns-in-Moving c =
    c.pass_on.ensures
    ∙ ap (λ s. after_turn (locks_of c.args.self.now) (goes_on_with (lvm_of c.args.self.now) c.args.reply (course_of c.args.self.now.refused s))) (sym c.in-Moving.is)
