use Rattle.sl_live_play.proofs.LivePlayOwed.{owes_devices, owes_no_entry, owes_lent}
use Rattle.sl_live_play.proofs.play.play_header.Goals as goal
use Rattle.sl_live_run.specs.Folders.{Asked}
use Rattle.std.proofs.Common.{refl}

pub returns-in-Ok : goal.returns-in-Ok
returns-in-Ok g c first begins =
    let f : Asked = record { path = c.args.folder.now; anew = c.args.manner.anew; disks = g.V.Devices.disks c.args.devices.now } in
    owes_devices g.D.Daemon.stands g.D.Daemon.commands _ f c.args.manner first _ _ _ _ _ _ _ _ _ _ _ _ c.play_entered.result.0 c.in-Ok.ensures.later
    (owes_lent g.D.Daemon.stands g.D.Daemon.commands _ f c.args.manner first _ _ _ _ _ _ _ _ _ _ _ _ c.play_entered.result.0 c.enter.ensures.lendings
    (c.play_entered.ensures f first refl begins c.in-Ok.ensures.vacant))

pub returns-in-Err : goal.returns-in-Err
returns-in-Err g c first begins =
    owes_no_entry g.D.Daemon.stands g.D.Daemon.commands _ (record { path = c.args.folder.now; anew = c.args.manner.anew; disks = g.V.Devices.disks c.args.devices.now }) c.args.manner first _ _ _ _ _ _ _ _ _ _ _
    c.args.header c.args.reader c.in-Err.why c.put_no_entry.result begins c.in-Err.ensures.bars c.put_no_entry.ensures
