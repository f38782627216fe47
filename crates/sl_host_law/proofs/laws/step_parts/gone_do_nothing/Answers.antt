use Rattle.sl_host_law.proofs.StepParts.GoneDoNothing as its
use Rattle.sl_host_law.proofs.laws.step_parts.gone_do_nothing.Goals as goal

pub returns : goal.returns
returns c = its.gone_do_nothing
