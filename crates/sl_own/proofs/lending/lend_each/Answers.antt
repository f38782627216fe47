-- One area more is handed out; what does not stand was found on the last one.
use Rattle.sl_live_run.proofs.LentLaws.{lent_there}
use Rattle.sl_own.proofs.LendLaws.{err_on, left_pushed, not_found, told_here, untaken_more}
use Rattle.sl_own.proofs.lending.lend_each.Goals as goal
use Rattle.sl_own.specs.OwnGrounds.{AreLeft, FindsOn, No_memory}
use Rattle.sl_own.specs.declared.no_place.NoPlace.TheVariants.{NotStanding}
use Rattle.sl_run.specs.declared.header.Disk.{Disk as DiskLine}
use Rattle.sl_standing.proofs.AreaLaws.{item_inside}
use Rattle.sl_standing.specs.declared.not_standing.NotStanding.TheVariants.{NoMemory}
use Rattle.std.proofs.Common.{refl, rules, subst, sym, ◌∙◌}
use Rattle.std.specs.Prelude.{AllPairs, [], ◌≢◌}

pub returns-in_err-reserve-clause-not : goal.returns-in_err-reserve-clause-not
returns-in_err-reserve-clause-not g c = err_on c.from_residual.result (NotStanding NoMemory) _ c.from_residual.ensures.1 No_memory

pub returns-in_err-whole-clause-not : goal.returns-in_err-whole-clause-not
returns-in_err-whole-clause-not g c = err_on c.from_residual-in_err-whole.result (NotStanding NoMemory) _ c.from_residual-in_err-whole.ensures.1 No_memory

pub returns-in_err-stands-clause-not : goal.returns-in_err-stands-clause-not
returns-in_err-stands-clause-not g c =
    let h = c.args.header.now in
    let items = c.as_slice-disk-items.result.now in
    let apart = subst (AllPairs (λ (a b : DiskLine). a.path ≢ b.path)) (sym c.as_slice-disk-items.ensures) c.requires.header.one_disk in
    let has = item_inside h.disks items c.loop-disk.disk-index c.disk-item.result c.as_slice-disk-items.ensures c.loop-disk-test.true c.disk-item.is in
    let told = told_here (g.V.Devices.disks c.args.devices.now) (g.V.Devices.disks c.loop-disk.devices) c.args.folder.now items c.loop-disk.disk-index c.disk-item.result _ _ apart c.loop-disk-test.true
    c.disk-item.is (search rules) c.loop-disk.invariant.untaken c.area-area.ensures.disk.content_is in
    err_on c.from_residual-in_err-stands.result _ _ c.from_residual-in_err-stands.ensures.1
    (not_found g.V.Area.Area.faults (g.V.Devices.disks c.args.devices.now) c.args.folder.now h c.args.part c.disk-item.result _ _ _ _ _ c.in_err-stands.field-0.0 has told c.push_reserved.ensures.items
    c.in_err-stands.ensures.not)

pub loop-disk-init : goal.loop-disk-init
loop-disk-init g c =
    record {
      left = subst (λ ds. AreLeft g.V.Area.Area.content (FindsOn (g.V.Devices.disks c.args.devices.now) c.args.folder.now c.args.header.now c.args.part) c.args.folder.now c.args.machine c.args.part [] ds (g.V.Devices.lendings c.args.devices.now) (g.V.Devices.lendings c.args.devices.now))
          (sym c.requires.first) refl;
      untaken = λ other all. refl;
      count = refl;
    }

pub loop-disk-preserved : goal.loop-disk-preserved
loop-disk-preserved g c =
    let h = c.args.header.now in
    let disks = g.V.Devices.disks c.args.devices.now in
    let items = c.as_slice-disk-items.result.now in
    let apart = subst (AllPairs (λ (a b : DiskLine). a.path ≢ b.path)) (sym c.as_slice-disk-items.ensures) c.requires.header.one_disk in
    let told = told_here disks (g.V.Devices.disks c.loop-disk.devices) c.args.folder.now items c.loop-disk.disk-index c.disk-item.result _ _ apart c.loop-disk-test.true
    c.disk-item.is (search rules) c.loop-disk.invariant.untaken c.area-area.ensures.disk.content_is in
    record {
      left = left_pushed g.V.Area.Area.content (FindsOn disks c.args.folder.now h c.args.part) c.args.folder.now c.args.machine c.args.part items c.loop-disk.disk-index c.disk-item.result c.loop-disk.disks.items c.reserve.new.self.items
          c.push_reserved.new.self.items _ _ _ _ c.loop-disk-test.true c.disk-item.is c.reserve.ensures.items c.push_reserved.ensures.items c.loop-disk.invariant.left
          (record { path_is = refl; before = g.V.Area.Area.content c.area-area.result; lent = lent_there g.V.Area.Area.content c.args.machine c.args.part _ c.args.folder.now c.disk-item.result.path _ c.area-area.result _ _ c.worker_of.ensures (search rules) c.area-area.ensures.lendings; found = (told, c.in_ok-stands.ensures.ok); kept = c.see_to-stands.ensures.kept });
      untaken = untaken_more disks (g.V.Devices.disks c.loop-disk.devices) _ c.args.folder.now items c.loop-disk.disk-index c.disk-item.result _ c.loop-disk-test.true c.disk-item.is (search rules)
          c.area-area.ensures.disk.others c.loop-disk.invariant.untaken;
      count = c.area-area.ensures.count ∙ c.loop-disk.invariant.count;
    }
