use Rattle.sl_live_run.proofs.SettingLaws.{sites_are_settings}
use Rattle.sl_live_play.proofs.MachineBeginnings.{are_settings}
use Rattle.sl_live_play.proofs.LivePlayOwed.{owes_devices, owes_no_ground}
use Rattle.sl_live_play.proofs.play.play_entered.Goals as goal
use Rattle.sl_live_run.specs.Lent.{AreAllHad}
use Rattle.sl_live_run.specs.Runs.{disks_in}
use Rattle.std.proofs.Common.{map, subst, sym}

pub play_ground-requires-clause-header : goal.play_ground-requires-clause-header
play_ground-requires-clause-header g c κs within = c.in-Ok.ensures.ok.lawful

pub play_ground-requires-clause-settings : goal.play_ground-requires-clause-settings
play_ground-requires-clause-settings g c κs within =
    are_settings _ _ _ _ _ g.D.Daemon.commands c.args.header c.in-Ok.ground sites_are_settings c.requires.reads c.in-Ok.ensures.ok

pub returns-in-Ok : goal.returns-in-Ok
returns-in-Ok g c f first same begins vacant =
    owes_devices g.D.Daemon.stands g.D.Daemon.commands _ f c.args.manner first _ _ _ _ _ _ _ _ _ _ _ _ c.play_ground.result.0 c.in-Ok.ensures.later
    (c.play_ground.ensures f (g.V.Devices.lendings c.args.devices.now) first c.args.header c.in-Ok.ensures.ok
    (subst (λ folder. AreAllHad g.V.Area.Area.content folder c.in-Ok.ground.header 1 (map (λ p. disks_in p.parts) c.in-Ok.ground.machines.items) (g.V.Devices.lendings c.args.devices.now) (g.V.Devices.lendings c.prepare.new.devices)) (sym same)
    c.in-Ok.ensures.had) begins vacant)

pub returns-in-Err : goal.returns-in-Err
returns-in-Err g c f first same begins vacant =
    owes_no_ground g.D.Daemon.stands g.D.Daemon.commands _ f c.args.manner first _ _ _ _ _ _ _ _ _ _ _ c.in-Err.why c.put_no_ground.result c.in-Err.ensures.err c.put_no_ground.ensures
