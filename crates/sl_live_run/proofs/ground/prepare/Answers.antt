-- The header has the readings of the clocks, and each machine is ready; or why one is not.
use Rattle.sl_live_run.proofs.LentLaws.{had_since}
use Rattle.sl_live_run.proofs.ReadyLaws.{explains_between, handed_on, header_lawful, header_machines, header_same, header_ticks, machines_back, ready_unasked}
use Rattle.sl_live_run.proofs.ground.prepare.Goals as goal
use Rattle.sl_live_run.specs.declared.ground.NoGround.TheVariants.{AreaFault, NoMemory}
use Rattle.sl_words.proofs.Numbers.{refl_le}
use Rattle.std.proofs.Common.{arith}

pub returns-in_err-make_disks-clause-err : goal.returns-in_err-make_disks-clause-err
returns-in_err-make_disks-clause-err g c = handed_on c.from_residual.result AreaFault _ _ c.from_residual.ensures.1 c.in_err-make_disks.ensures.cause.failed

pub returns-in_err-started-clause-err : goal.returns-in_err-started-clause-err
returns-in_err-started-clause-err g c = handed_on c.from_residual-in_err-started.result NoMemory _ _ c.from_residual-in_err-started.ensures.1 tt

pub prepare_all-requires-clause-header : goal.prepare_all-requires-clause-header
prepare_all-requires-clause-header g c lives within =
    header_lawful g.V.Clock.Clock.last c.in_ok-started.started.clocks.items c.args.header c.with_readings-header.result _ c.with_readings-header.ensures c.in_ok-started.ensures.readings c.in_ok-started.ensures.each c.requires

pub prepare_all-requires-clause-ticks : goal.prepare_all-requires-clause-ticks
prepare_all-requires-clause-ticks g c lives within =
    header_ticks g.V.Clock.Clock.last c.in_ok-started.started.clocks.items c.args.header c.with_readings-header.result _ c.with_readings-header.ensures c.in_ok-started.ensures.readings

pub prepare_all-requires-clause-each : goal.prepare_all-requires-clause-each
prepare_all-requires-clause-each g c lives within = header_machines c.args.header c.with_readings-header.result _ _ c.with_readings-header.ensures c.in_ok-started.ensures.each

pub returns-in_err-machines-clause-err : goal.returns-in_err-machines-clause-err
returns-in_err-machines-clause-err g c =
    let why = c.in_err-machines.field-0.0 in
    let first = c.make_disks.ensures.cause.later in
    let same = c.start_clocks.ensures.count in
    handed_on c.from_residual-in_err-machines.result why _ _ c.from_residual-in_err-machines.ensures.1
    (explains_between why (g.V.Devices.faults c.args.devices.now) (g.V.Devices.faults c.start_clocks.new.devices) (g.V.Devices.faults c.prepare_all.new.devices)
    (g.V.Devices.faults c.prepare_all.new.devices) (omega (arith, first, same)) c.in_err-machines.ensures.err (refl_le _))

pub returns-clause-ok : goal.returns-clause-ok
returns-clause-ok g c =
    record {
      lawful = header_lawful g.V.Clock.Clock.last c.in_ok-started.started.clocks.items c.args.header c.with_readings-header.result _ c.with_readings-header.ensures c.in_ok-started.ensures.readings c.in_ok-started.ensures.each
          c.requires;
      same = header_same c.args.header c.with_readings-header.result _ c.with_readings-header.ensures;
      counted = machines_back c.args.header c.with_readings-header.result _ _ c.with_readings-header.ensures c.in_ok-machines.ensures.each;
      ready = c.in_ok-machines.ensures.ready;
    }

pub returns-clause-unasked : goal.returns-clause-unasked
returns-clause-unasked g c =
    ready_unasked g.V.Clock.Clock.last g.V.Spawner.Spawner.running g.V.Spawner.Spawner.acts g.V.Device.Device.last g.V.Device.Device.fire c.with_readings-header.result
    c.in_ok-machines.machines.items c.in_ok-machines.ensures.ready

pub returns-clause-had : goal.returns-clause-had
returns-clause-had g c = had_since g.V.Area.Area.content c.args.folder.now c.with_readings-header.result 1 _ _ _ _ _ _ c.start_clocks.ensures.lendings c.make_disks.ensures.lendings c.gate.ensures.lendings c.in_ok-machines.ensures.had
