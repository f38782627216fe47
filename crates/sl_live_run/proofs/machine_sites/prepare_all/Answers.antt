-- The areas of those that were ready are back.
use Rattle.sl_live_run.proofs.ReadyLaws.{explains_between}
use Rattle.sl_live_run.proofs.machine_sites.prepare_all.Goals as goal
use Rattle.sl_words.proofs.Numbers.{refl_le}

pub returns-in-Err-clause-err : goal.returns-in-Err-clause-err
returns-in-Err-clause-err g c =
    explains_between c.in-Err.why (g.V.Devices.faults c.args.devices.now) (g.V.Devices.faults c.args.devices.now) (g.V.Devices.faults c.prepare_each.new.devices)
    (g.V.Devices.faults c.take_all_back.new.devices) (refl_le _) c.in-Err.ensures.err c.take_all_back.ensures
