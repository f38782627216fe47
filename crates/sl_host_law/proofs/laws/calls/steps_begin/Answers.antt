use Rattle.sl_host_law.proofs.Calls.StepsBegin as its
use Rattle.sl_host_law.proofs.laws.calls.steps_begin.Goals as goal

pub returns : goal.returns
returns c = its.steps_begin
