-- One disk more stands, with its size; or it does not.
use Rattle.sl_own.proofs.PlaceLaws.{differs_before}
use Rattle.sl_own.proofs.place.look_at_each.Goals as goal
use Rattle.sl_own.specs.OwnGrounds.{HasSize}
use Rattle.sl_standing.proofs.AreaLaws.{all_more, all_whole, item_inside}
use Rattle.std.proofs.Common.{subst, ◌∙◌}

pub look_at-requires-clause-small : goal.look_at-requires-clause-small
look_at-requires-clause-small g c κs within =
    (c.requires.disks c.disk-item.result
    (item_inside c.args.header.now.disks c.as_slice-disk-items.result.now c.loop-disk.disk-index c.disk-item.result c.as_slice-disk-items.ensures c.loop-disk-test.true c.disk-item.is)).2

pub returns-in_err-look_at-clause-differs : goal.returns-in_err-look_at-clause-differs
returns-in_err-look_at-clause-differs g c =
    differs_before c.from_residual.result c.in_err-look_at.field-0.0 (g.V.Devices.disks c.args.devices.now) (g.V.Devices.disks c.loop-disk.devices) c.args.folder.now c.args.header.now
    c.loop-disk.invariant.same c.from_residual.ensures.1
    (c.in_err-look_at.ensures.differs c.args.header.now
    (item_inside c.args.header.now.disks c.as_slice-disk-items.result.now c.loop-disk.disk-index c.disk-item.result c.as_slice-disk-items.ensures c.loop-disk-test.true c.disk-item.is))

pub loop-disk-preserved : goal.loop-disk-preserved
loop-disk-preserved g c =
    record {
      sizes = all_more (HasSize (g.V.Devices.disks c.args.devices.now) c.args.folder.now) c.as_slice-disk-items.result.now c.loop-disk.disk-index c.disk-item.result c.loop-disk-test.true c.disk-item.is
          c.loop-disk.invariant.sizes (subst (λ ds. HasSize ds c.args.folder.now c.disk-item.result) c.loop-disk.invariant.same c.in_ok-look_at.ensures.ok);
      same = c.look_at.ensures.same ∙ c.loop-disk.invariant.same;
      lendings = c.look_at.ensures.lendings ∙ c.loop-disk.invariant.lendings;
      count = c.look_at.ensures.count ∙ c.loop-disk.invariant.count;
    }

pub returns-clause-ok : goal.returns-clause-ok
returns-clause-ok g c =
    all_whole (HasSize (g.V.Devices.disks c.args.devices.now) c.args.folder.now) c.args.header.now.disks c.as_slice-disk-items.result.now c.loop-disk.disk-index c.as_slice-disk-items.ensures
    c.loop-disk-test.false c.loop-disk.invariant.sizes
