-- Those of one worker are back, and then those of the other.
use Rattle.sl_live_run.proofs.disks.give_back.Goals as goal

pub returns-clause-back : goal.returns-clause-back
returns-clause-back g c = (g.V.Devices.lendings c.take_back.new.devices, c.take_back.ensures.back, c.take_back-2.ensures.back)
