use Rattle.sl_live_run.proofs.SettingLaws.{sites_are_settings}
use Rattle.sl_own.proofs.PlayLaws.{owes_devices, owes_header, owes_no_place, own_setting, small_place}
use Rattle.sl_own.proofs.WatchLaws.{rests_no_place, rests_refused}
use Rattle.sl_own.proofs.play.play_header.Goals as goal
use Rattle.sl_report.specs.Schedules.{NumberedLine}
use Rattle.std.proofs.Common.{ap, sym, ◌∙◌}

pub play_ground-requires-clause-place : goal.play_ground-requires-clause-place
play_ground-requires-clause-place g c κs within = small_place _ _ (g.V.Devices.disks c.args.devices.now) c.args.folder.now c.args.header c.args.manner.machine _ _ c.in-Ok.ground c.in-Ok.ensures.ok

pub play_ground-requires-clause-setting : goal.play_ground-requires-clause-setting
play_ground-requires-clause-setting g c κs within = own_setting _ _ g.D.Daemon.commands (g.V.Devices.disks c.args.devices.now) c.args.folder.now c.args.header c.args.manner.machine _ _ c.in-Ok.ground sites_are_settings c.requires.reads c.in-Ok.ensures.ok

pub play_ground-requires-clause-numbered : goal.play_ground-requires-clause-numbered
play_ground-requires-clause-numbered g c κs within = c.in-Ok.ensures.ok.numbered

pub play_ground-requires-clause-unasked : goal.play_ground-requires-clause-unasked
play_ground-requires-clause-unasked g c κs within = c.in-Ok.ensures.ok.unasked

pub play_ground-requires-clause-header : goal.play_ground-requires-clause-header
play_ground-requires-clause-header g c κs within = c.in-Ok.ensures.ok.lawful

pub returns-in-Some-clause-owes : goal.returns-in-Some-clause-owes
returns-in-Some-clause-owes g c first begins =
    owes_header g.D.Daemon.stands g.D.Daemon.commands _ (g.V.Devices.disks c.args.devices.now) c.args.folder.now c.args.manner first _ _ _ _ _ _ _ _ _ _ _ c.args.reader c.args.header c.line-number.result.number
    c.in-Some.why c.put_refusal-lived.result begins (sym c.header_refusal.ensures ∙ c.in-Some.is) (ap (λ (l : NumberedLine). l.number) c.line-number.ensures) c.put_refusal-lived.ensures

pub returns-in-Ok-clause-owes : goal.returns-in-Ok-clause-owes
returns-in-Ok-clause-owes g c first begins =
    owes_devices g.D.Daemon.stands g.D.Daemon.commands _ (g.V.Devices.disks c.args.devices.now) c.args.folder.now c.args.manner first _ _ _ _ _ _ _ _ _ _ _ _ c.play_ground.result.0 c.in-Ok.ensures.later
    (c.play_ground.ensures.owes (g.V.Devices.disks c.args.devices.now) c.args.folder.now (g.V.Devices.lendings c.args.devices.now) first c.args.header c.in-Ok.ensures.ok (record { header = sym c.header_refusal.ensures ∙ c.in-None.is; place = c.in-Ok.ensures.place }) begins)

pub returns-in-Err-clause-owes : goal.returns-in-Err-clause-owes
returns-in-Err-clause-owes g c first begins =
    owes_no_place g.D.Daemon.stands g.D.Daemon.commands _ (g.V.Devices.disks c.args.devices.now) c.args.folder.now c.args.manner first _ _ _ _ _ _ _ _ _ _ _ c.args.header c.args.reader c.in-Err.why
    c.put_no_place-lived.result begins c.in-Err.ensures.bars c.put_no_place-lived.ensures

pub returns-in-Some-clause-rests : goal.returns-in-Some-clause-rests
returns-in-Some-clause-rests g c = rests_refused g.V.Watchdog.Watchdog.path g.V.Watchdog.Watchdog.rested _ _ _ _ _ _ _ c.put_refusal-lived.result c.put_refusal-lived.ensures

pub returns-in-Ok-clause-rests : goal.returns-in-Ok-clause-rests
returns-in-Ok-clause-rests g c =
    c.play_ground.ensures.rests _ (g.V.Devices.disks c.args.devices.now) c.args.folder.now (g.V.Devices.lendings c.args.devices.now) c.args.header c.in-Ok.ensures.ok
    (record { header = sym c.header_refusal.ensures ∙ c.in-None.is; place = c.in-Ok.ensures.place }) c.in-Ok.ensures.opened

pub returns-in-Err-clause-rests : goal.returns-in-Err-clause-rests
returns-in-Err-clause-rests g c = rests_no_place g.V.Watchdog.Watchdog.path g.V.Watchdog.Watchdog.rested _ _ _ _ _ _ c.in-Err.why c.put_no_place-lived.result c.put_no_place-lived.ensures
