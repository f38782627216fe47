-- What lies on the disk of one line more stands behind the rest.
use Rattle.sl_direct.specs.HalfDone.{Wrote}
use Rattle.sl_live_run.proofs.WriteLaws.{item_inside, wrote_all, wrote_more}
use Rattle.sl_live_run.proofs.initial.write_resources.Goals as goal
use Rattle.sl_live_run.specs.Areas.{resource_writes_at}
use Rattle.std.proofs.Common.{rules, subst}
use Rattle.std.specs.Prelude.{flat_map}

pub write_resource_at-requires-clause-line : goal.write_resource_at-requires-clause-line
write_resource_at-requires-clause-line g c =
    item_inside c.args.header.now.resources c.as_slice-line-items.result.now c.loop-line.line-index c.line-item.result c.as_slice-line-items.ensures c.loop-line-test.true c.line-item.is

pub loop-line-preserved : goal.loop-line-preserved
loop-line-preserved g c =
    record {
      wrote = wrote_more (resource_writes_at c.args.header.now c.args.path) c.as_slice-line-items.result.now c.loop-line.line-index c.line-item.result _ _ _ c.loop-line-test.true
          c.line-item.is c.loop-line.invariant.wrote c.in_ok-write_resource_at.ensures.ok;
      later = search rules;
    }

pub returns-clause-ok : goal.returns-clause-ok
returns-clause-ok g c =
    subst (λ ls. Wrote (flat_map (resource_writes_at c.args.header.now c.args.path) ls) (g.A.Area.content c.args.area.now) (g.A.Area.content c.loop-line.area))
    c.as_slice-line-items.ensures
    (wrote_all (resource_writes_at c.args.header.now c.args.path) c.as_slice-line-items.result.now c.loop-line.line-index _ _ c.loop-line-test.false c.loop-line.invariant.wrote)
