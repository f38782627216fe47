use Rattle.sl_live_machine.proofs.RunLaws.{case_broken}
use Rattle.sl_live_machine.proofs.machine.close_early.Goals as goal

pub returns : goal.returns
returns g c =
    case_broken g.J.Station.setting c.deref.result.now c.hand_out-rest.new.mine c.in-Err-Broken.entries (rw c.in-Err-Broken.field-0-is at c.in-Err-Broken.ensures.differ)
