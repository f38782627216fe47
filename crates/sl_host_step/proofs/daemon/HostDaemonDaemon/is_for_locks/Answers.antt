use Rattle.sl_host_step.proofs.LockZeros.{not_for_locks}
use Rattle.sl_host_step.proofs.daemon.HostDaemonDaemon.is_for_locks.Goals as goal
use Rattle.std.proofs.Common.{subst, ◌<◌}

pub returns-then-zeros-lt-LOCK_ZEROS : goal.returns-then-zeros-lt-LOCK_ZEROS
returns-then-zeros-lt-LOCK_ZEROS c =
    not_for_locks c.args.header.now c.args.text.now c.requires (subst (λ n. n < 6) c.zeros.ensures c.if-zeros-lt-LOCK_ZEROS.true)
