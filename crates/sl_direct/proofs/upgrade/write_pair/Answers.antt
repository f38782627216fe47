-- The first sector stands before the second, or one of them fails.
use Rattle.sl_direct.proofs.DiskLaws.{on_err}
use Rattle.sl_direct.proofs.UpgradeLaws.{first_broke, pair_wrote, second_broke}
use Rattle.sl_direct.proofs.upgrade.write_pair.Goals as goal

pub returns-in_err-write_turn-clause-failed : goal.returns-in_err-write_turn-clause-failed
returns-in_err-write_turn-clause-failed g c = on_err _ _ (first_broke _ _ _ _ c.in_err-write_turn.ensures.failed)

pub returns-in_err-write_turn-2-clause-failed : goal.returns-in_err-write_turn-2-clause-failed
returns-in_err-write_turn-2-clause-failed g c = on_err _ _ (second_broke _ _ _ _ _ c.in_ok-write_turn.ensures.ok c.in_err-write_turn-2.ensures.failed)

pub returns-clause-ok : goal.returns-clause-ok
returns-clause-ok g c = pair_wrote _ _ _ _ _ c.in_ok-write_turn.ensures.ok c.in_ok-write_turn-2.ensures.ok
