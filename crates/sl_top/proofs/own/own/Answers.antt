use Rattle.sl_top.proofs.WatchLaws.{rests_behind}
use Rattle.sl_top.proofs.own.own.Goals as goal

pub returns-clause-watchdog : goal.returns-clause-watchdog
returns-clause-watchdog g c =
    rests_behind _ g.D.Watchdog.Watchdog.path g.D.Watchdog.Watchdog.rested c.as_str.result.now c.args.place.now.folder _ c.args.place.now.watchdog c.args.place.now.manner
    (record {
      left = g.S.Source.left c.args.source;
      source_faults = g.S.Source.faults c.args.source;
      taken = g.K.Sink.taken c.args.sink;
      sink_faults = g.K.Sink.faults c.args.sink;
      disks = g.D.Devices.disks c.args.devices.now;
      lendings = g.D.Devices.lendings c.args.devices.now;
      device_faults = g.D.Devices.faults c.args.devices.now;
    })
    (record {
      left = g.S.Source.left c.play_own-lived.result.1;
      source_faults = g.S.Source.faults c.play_own-lived.result.1;
      taken = g.K.Sink.taken c.play_own-lived.result.2;
      sink_faults = g.K.Sink.faults c.play_own-lived.result.2;
      disks = g.D.Devices.disks c.play_own-lived.new.devices;
      lendings = g.D.Devices.lendings c.play_own-lived.new.devices;
      device_faults = g.D.Devices.faults c.play_own-lived.new.devices;
    })
    c.play_own-lived.result.3 c.play_own-lived.result.0 _ c.as_str.ensures c.text_of.ensures c.status_of_live.ensures c.play_own-lived.ensures.rests
