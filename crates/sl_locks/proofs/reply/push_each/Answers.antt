use Rattle.sl_command.proofs.LineLaws.{one_more}
use Rattle.sl_locks.proofs.reply.push_each.Goals as goal
use Rattle.sl_run.specs.Lvm.{held_lock_word}
use Rattle.std.proofs.Common.{◌∷◌}

pub loop-lock-preserved : goal.loop-lock-preserved
loop-lock-preserved c =
    one_more (λ h. 32 ∷ held_lock_word h) c.args.held.now c.loop-lock.lock-index c.lock-item.result _ _ _
    c.loop-lock-test.true c.lock-item.is c.loop-lock.invariant c.in_ok-push_held.ensures
