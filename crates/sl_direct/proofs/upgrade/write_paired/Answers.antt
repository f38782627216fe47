-- The three parts stand one behind another, or one of them fails.
use Rattle.sl_direct.proofs.DiskLaws.{on_err}
use Rattle.sl_direct.proofs.UpgradeLaws.{last_broke, pairs_broke, upgrade_wrote, zeros_broke}
use Rattle.sl_direct.proofs.upgrade.write_paired.Goals as goal

pub returns-in_err-write_zeros-clause-failed : goal.returns-in_err-write_zeros-clause-failed
returns-in_err-write_zeros-clause-failed g c = on_err _ _ (zeros_broke _ _ _ _ _ c.in_err-write_zeros.ensures.failed)

pub returns-in_err-write_pairs-clause-failed : goal.returns-in_err-write_pairs-clause-failed
returns-in_err-write_pairs-clause-failed g c = on_err _ _ (pairs_broke _ _ _ _ _ _ c.in_ok-write_zeros.ensures.ok c.in_err-write_pairs.ensures.failed)

pub returns-in_err-write_last-clause-failed : goal.returns-in_err-write_last-clause-failed
returns-in_err-write_last-clause-failed g c =
    on_err _ _ (last_broke _ _ _ _ _ _ _ c.in_ok-write_zeros.ensures.ok c.in_ok-write_pairs.ensures.ok c.in_err-write_last.ensures.failed)

pub returns-clause-ok : goal.returns-clause-ok
returns-clause-ok g c = upgrade_wrote _ _ _ _ _ _ _ c.in_ok-write_zeros.ensures.ok c.in_ok-write_pairs.ensures.ok c.in_ok-write_last.ensures.ok
