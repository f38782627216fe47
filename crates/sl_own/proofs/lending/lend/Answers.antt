-- What was handed out has come back.
use Rattle.sl_own.proofs.LendLaws.{not_lent_back}
use Rattle.sl_own.proofs.lending.lend.Goals as goal

pub returns-in-Err-clause-not : goal.returns-in-Err-clause-not
returns-in-Err-clause-not g c =
    not_lent_back (g.V.Devices.disks c.args.devices.now) c.args.folder.now c.args.header.now c.args.part _ (g.V.Devices.faults c.args.devices.now) _ (g.V.Devices.faults c.take_back.new.devices) c.in-Err.why
    c.lend_each.ensures.count c.take_back.ensures.count c.in-Err.ensures.not
