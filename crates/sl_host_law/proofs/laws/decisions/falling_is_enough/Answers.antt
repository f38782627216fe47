use Rattle.sl_host_law.proofs.Decisions.FallingIsEnough as its
use Rattle.sl_host_law.proofs.laws.decisions.falling_is_enough.Goals as goal

pub returns : goal.returns
returns c = its.falling_is_enough
