use Rattle.sl_host_law.proofs.StepParts.EarlierIsQuiet as its
use Rattle.sl_host_law.proofs.laws.step_parts.earlier_is_quiet.Goals as goal

pub returns : goal.returns
returns c = its.earlier_is_quiet
