-- One disk more was looked at.
use Rattle.sl_live_run.proofs.FolderLaws.{barred_on, bars_one, free_more, none_stands}
use Rattle.sl_live_run.proofs.WriteLaws.{item_inside}
use Rattle.sl_live_run.proofs.folder.look_at_each.Goals as goal
use Rattle.sl_live_run.specs.Folders.{Bars}
use Rattle.std.proofs.Common.{None, arith, false, subst, ◌++◌, ◌∙◌, ◌≡◌}

pub returns-in_err-look_at-clause-bars : goal.returns-in_err-look_at-clause-bars
returns-in_err-look_at-clause-bars g c =
    let has = item_inside c.args.header.now.disks c.as_slice-disk-items.result.now c.loop-disk.disk-index c.disk-item.result c.as_slice-disk-items.ensures c.loop-disk-test.true c.disk-item.is in
    let why = c.in_err-look_at.field-0.0 in
    barred_on c.from_residual.result why (Bars false c.args.header.now (g.V.Devices.faults c.args.devices.now) (g.V.Devices.faults c.look_at.new.devices))
    c.from_residual.ensures.1
    (bars_one c.args.header.now c.disk-item.result (g.V.Devices.faults c.args.devices.now) (g.V.Devices.faults c.loop-disk.devices) (g.V.Devices.faults c.look_at.new.devices) why has
    c.loop-disk.invariant.later c.in_err-look_at.ensures.bars)

pub loop-disk-preserved : goal.loop-disk-preserved
loop-disk-preserved g c =
    let disks = g.V.Devices.disks c.args.devices.now in
    let path = c.args.folder.now in
    let before = c.loop-disk.invariant.later in
    let later = c.look_at.ensures.later in
    record {
      free = free_more disks path c.as_slice-disk-items.result.now c.loop-disk.disk-index c.disk-item.result c.loop-disk-test.true c.disk-item.is c.loop-disk.invariant.free
          (subst (λ ds. ds (path ++ c.disk-item.result.path) ≡ None) c.loop-disk.invariant.same c.in_ok-look_at.ensures.free);
      same = c.look_at.ensures.same ∙ c.loop-disk.invariant.same;
      lendings = c.look_at.ensures.lendings ∙ c.loop-disk.invariant.lendings;
      later = omega (arith, before, later);
    }

pub returns-clause-vacant : goal.returns-clause-vacant
returns-clause-vacant g c =
    none_stands (g.V.Devices.disks c.args.devices.now) c.args.folder.now c.args.header.now c.as_slice-disk-items.result.now c.loop-disk.disk-index c.as_slice-disk-items.ensures
    c.loop-disk-test.false c.loop-disk.invariant.free
