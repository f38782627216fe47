use Rattle.sl_host_law.proofs.StepParts.SpawnsAreTaken as its
use Rattle.sl_host_law.proofs.laws.step_parts.spawns_are_taken.Goals as goal

pub returns : goal.returns
returns c = its.spawns_are_taken
