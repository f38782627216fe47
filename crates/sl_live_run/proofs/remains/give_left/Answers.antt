-- The areas are back, and then the spawners.
use Rattle.sl_live_run.proofs.remains.give_left.Goals as goal

pub returns : goal.returns
returns g c =
    let areas = c.give_back.ensures.back in
    record {
      resource_back = areas.0;
      resource = areas.1;
      delta_back = g.V.Devices.lendings c.give_back.new.devices;
      delta = areas.2;
      signals_back = g.V.Devices.lendings c.spawner_back.new.self;
      signals = c.spawner_back.ensures.lendings;
      starts = c.spawner_back-2.ensures.lendings;
    }
