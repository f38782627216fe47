-- A disk has at most 64 mebibytes; one disk more is made.
use Rattle.sl_live_run.proofs.FolderLaws.{stay_on}
use Rattle.sl_live_run.proofs.WriteLaws.{item_inside}
use Rattle.sl_live_run.proofs.disks.make_disks.Goals as goal
use Rattle.std.proofs.Common.{arith, ◌∙◌}

pub overflow_mul-size : goal.overflow_mul-size
overflow_mul-size g c =
    let has = item_inside c.args.header.now.disks c.as_slice-disk-items.result.now c.loop-disk.disk-index c.disk-item.result c.as_slice-disk-items.ensures c.loop-disk-test.true c.disk-item.is in
    let few = (c.requires.disks c.disk-item.result has).2 in
    omega (arith, few)

pub returns-in_err-make-clause-kept : goal.returns-in_err-make-clause-kept
returns-in_err-make-clause-kept g c = λ kept.
    stay_on (g.V.Devices.disks c.args.devices.now) (g.V.Devices.disks c.loop-disk.devices) (g.V.Devices.disks c.make.new.self) (c.loop-disk.invariant.kept kept) (c.make.ensures.kept kept)

pub loop-disk-preserved : goal.loop-disk-preserved
loop-disk-preserved g c =
    let before = c.loop-disk.invariant.later in
    let later = c.make.ensures.cause.later in
    record {
      later = omega (arith, before, later);
      lendings = c.make.ensures.lendings ∙ c.loop-disk.invariant.lendings;
      kept = λ kept.
          stay_on (g.V.Devices.disks c.args.devices.now) (g.V.Devices.disks c.loop-disk.devices) (g.V.Devices.disks c.make.new.self) (c.loop-disk.invariant.kept kept) (c.make.ensures.kept kept);
    }
