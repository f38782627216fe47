-- The four parts stand one behind another, or one of them fails.
use Rattle.sl_direct.proofs.DiskLaws.{on_err}
use Rattle.sl_direct.proofs.FreshLaws.{block_broke, leader_broke, request_broke, resource_wrote, value_broke}
use Rattle.sl_direct.proofs.fresh_areas.write_resource.Goals as goal

pub returns-in_err-write_request-clause-failed : goal.returns-in_err-write_request-clause-failed
returns-in_err-write_request-clause-failed g c = on_err _ _ (request_broke _ _ _ _ _ _ c.in_err-write_request.ensures.failed)

pub returns-in_err-write_blocks-clause-failed : goal.returns-in_err-write_blocks-clause-failed
returns-in_err-write_blocks-clause-failed g c =
    on_err _ _ (block_broke _ _ _ _ _ _ _ c.in_ok-write_request.ensures.ok c.in_err-write_blocks.ensures.failed)

pub returns-in_err-write_value-clause-failed : goal.returns-in_err-write_value-clause-failed
returns-in_err-write_value-clause-failed g c =
    on_err _ _
    (value_broke _ _ _ _ _ _ _ _ c.in_ok-write_request.ensures.ok c.in_ok-write_blocks.ensures.ok c.in_err-write_value.ensures.failed)

pub returns-in_err-write_leader-clause-failed : goal.returns-in_err-write_leader-clause-failed
returns-in_err-write_leader-clause-failed g c =
    on_err _ _
    (leader_broke _ _ _ _ _ _ _ _ _ c.in_ok-write_request.ensures.ok c.in_ok-write_blocks.ensures.ok c.in_ok-write_value.ensures.ok c.in_err-write_leader.ensures.failed)

pub returns-clause-ok : goal.returns-clause-ok
returns-clause-ok g c =
    resource_wrote _ _ _ _ _ _ _ _ _ c.in_ok-write_request.ensures.ok c.in_ok-write_blocks.ensures.ok c.in_ok-write_value.ensures.ok c.in_ok-write_leader.ensures.ok
