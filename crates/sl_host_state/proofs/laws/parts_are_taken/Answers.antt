use Rattle.sl_host_state.proofs.PartsAreTaken as its
use Rattle.sl_host_state.proofs.laws.parts_are_taken.Goals as goal

pub returns : goal.returns
returns c = its.parts_are_taken
