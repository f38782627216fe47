-- One line more stands, or one does not.
use Rattle.sl_standing.proofs.AreaLaws.{all_more, all_whole, handed_on, item_inside, kept_behind, leader_on_before, stands_not_before}
use Rattle.sl_standing.proofs.areas.check_resources.Goals as goal
use Rattle.sl_standing.specs.Standing.{HasLeaderOn}
use Rattle.std.proofs.Common.{rules}

pub check_resource_at-requires-clause-line : goal.check_resource_at-requires-clause-line
check_resource_at-requires-clause-line g c =
    item_inside c.args.header.now.resources c.as_slice-line-items.result.now c.loop-line.line-index c.line-item.result c.as_slice-line-items.ensures c.loop-line-test.true c.line-item.is

pub loop-line-preserved : goal.loop-line-preserved
loop-line-preserved g c =
    record {
      kept = kept_behind _ _ _ c.loop-line.invariant.kept c.in_ok-check_resource_at.ensures.kept;
      all = all_more (HasLeaderOn c.args.header.now c.args.path (g.A.Area.content c.args.area.now)) c.as_slice-line-items.result.now c.loop-line.line-index c.line-item.result
          c.loop-line-test.true c.line-item.is c.loop-line.invariant.all
          (leader_on_before c.args.header.now c.args.path _ _ c.line-item.result c.loop-line.invariant.kept c.in_ok-check_resource_at.ensures.ok);
      later = search rules;
    }

pub returns-in_err-check_resource_at-clause-lacks : goal.returns-in_err-check_resource_at-clause-lacks
returns-in_err-check_resource_at-clause-lacks g c =
    handed_on c.from_residual.result c.in_err-check_resource_at.field-0.0 c.args.header.now c.args.path _ _ _ c.from_residual.ensures.1
    (stands_not_before c.args.header.now c.args.path _ _ _ _ _ _ c.loop-line.invariant.kept c.loop-line.invariant.later c.in_err-check_resource_at.ensures.lacks)

pub returns-clause-ok : goal.returns-clause-ok
returns-clause-ok g c =
    all_whole (HasLeaderOn c.args.header.now c.args.path (g.A.Area.content c.args.area.now)) c.args.header.now.resources c.as_slice-line-items.result.now c.loop-line.line-index
    c.as_slice-line-items.ensures c.loop-line-test.false c.loop-line.invariant.all
