use Rattle.sl_locks.proofs.ValueLaws.{writing_is}
use Rattle.sl_locks.proofs.table.LvmLocks.after_writing.Goals as goal
use Rattle.sl_locks.specs.Tables.{releases_written, locks_of, lvm_of}
use Rattle.sl_run.specs.Locks.{after_turn}
use Rattle.std.proofs.Common.{ap, ◌∙◌}

pub returns : goal.returns
returns c =
    c.release_written.ensures
    ∙ ap (λ v. after_turn (locks_of c.args.self.now) (releases_written c.args.lock v c.args.reply (lvm_of c.args.self.now))) c.version_written-version.ensures
    ∙ ap (after_turn (locks_of c.args.self.now)) (writing_is (lvm_of c.args.self.now) c.args.lock c.args.reply)
