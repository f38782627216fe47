-- One area more is handed out; the one that failed has counted a fault.
use Rattle.sl_live_run.proofs.LentLaws.{fault_pushed, lent_pushed, lent_there}
use Rattle.sl_live_run.proofs.disks.lend_each.Goals as goal
use Rattle.sl_live_run.specs.Areas.{AreLent}
use Rattle.std.proofs.Common.{[], refl, rules, subst, sym, ◌∙◌}

pub returns-in_err-written-clause-fault : goal.returns-in_err-written-clause-fault
returns-in_err-written-clause-fault g c = λ same. fault_pushed g.V.Area.Area.faults _ _ _ _ c.push_reserved.ensures.items c.in_err-written.ensures.cause.failed

pub loop-disk-init : goal.loop-disk-init
loop-disk-init g c =
    record {
      lent = subst (λ ds. AreLent g.V.Area.Area.content c.args.folder.now c.args.header.now c.args.machine c.args.part [] ds (g.V.Devices.lendings c.args.devices.now) (g.V.Devices.lendings c.args.devices.now)) (sym c.requires.first) refl;
      count = refl;
    }

pub loop-disk-preserved : goal.loop-disk-preserved
loop-disk-preserved g c =
    let content = g.V.Area.Area.content in
    record {
      lent = lent_pushed content c.args.folder.now c.args.header.now c.args.machine c.args.part c.as_slice-disk-items.result.now c.loop-disk.disk-index c.disk-item.result
          c.loop-disk.disks.items c.reserve.new.self.items c.push_reserved.new.self.items _ _ _ _ c.loop-disk-test.true c.disk-item.is c.reserve.ensures.items c.push_reserved.ensures.items
          c.loop-disk.invariant.lent
          (record {
            path_is = refl;
            before = c.area-area.result;
            lent = lent_there content c.args.machine c.args.part _ c.args.folder.now c.disk-item.result.path _ c.area-area.result _ _ c.worker_of.ensures (search rules) c.area-area.ensures.lendings;
            wrote = c.in_ok-written.ensures.ok;
          });
      count = c.area-area.ensures.count ∙ c.loop-disk.invariant.count;
    }
