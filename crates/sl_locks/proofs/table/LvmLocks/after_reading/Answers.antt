use Rattle.sl_locks.proofs.ValueLaws.{reading_is}
use Rattle.sl_locks.proofs.table.LvmLocks.after_reading.Goals as goal
use Rattle.sl_locks.specs.Tables.{compares, locks_of, lvm_of}
use Rattle.sl_run.specs.Locks.{after_turn}
use Rattle.std.proofs.Common.{ap, ◌∙◌}

pub returns : goal.returns
returns c =
    c.compare.ensures
    ∙ ap (λ v. after_turn (locks_of c.args.self.now) (compares c.args.lock v c.args.reply (lvm_of c.args.self.now))) c.version_read-version.ensures
    ∙ ap (after_turn (locks_of c.args.self.now)) (reading_is (lvm_of c.args.self.now) c.args.lock c.args.reply)
