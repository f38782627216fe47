-- One area more is back.
use Rattle.sl_live_run.proofs.LentLaws.{back_first, back_more, going_first, going_more}
use Rattle.sl_live_run.proofs.disks.take_back.Goals as goal

pub loop-disk-init : goal.loop-disk-init
loop-disk-init g c =
    record {
      count = back_first g.V.Area.Area.faults c.args.disks.items (g.V.Devices.faults c.args.devices.now);
      back = going_first g.V.Area.Area.content g.V.Area.Area.faults c.args.disks.items (g.V.Devices.lendings c.args.devices.now);
    }

pub loop-disk-preserved : goal.loop-disk-preserved
loop-disk-preserved g c =
    record {
      count = back_more g.V.Area.Area.faults c.args.disks.items c.loop-disk.disks.items c.pop.new.self.items c.in-Some.disk (g.V.Devices.faults c.args.devices.now)
          (g.V.Devices.faults c.loop-disk.devices) (g.V.Devices.faults c.back.new.self) c.in-Some.ensures.items c.back.ensures.count c.loop-disk.invariant.count;
      back = going_more g.V.Area.Area.content g.V.Area.Area.faults c.args.disks.items c.loop-disk.disks.items c.pop.new.self.items c.in-Some.disk (g.V.Devices.lendings c.args.devices.now)
          (g.V.Devices.lendings c.loop-disk.devices) (g.V.Devices.lendings c.back.new.self) c.in-Some.ensures.items c.back.ensures.lendings c.loop-disk.invariant.back;
    }
