use Rattle.sl_machine.proofs.AllRefusals as all
use Rattle.sl_machine.proofs.laws.refusals_are_those.Goals as goal

pub returns : goal.returns
returns c = all.refusals_are_those
