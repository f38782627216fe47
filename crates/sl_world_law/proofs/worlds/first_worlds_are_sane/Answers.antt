use Rattle.sl_world_law.proofs.FirstMachines.{first_worlds_are_sane}
use Rattle.sl_world_law.proofs.worlds.first_worlds_are_sane.Goals as goal

pub returns : goal.returns
returns c = first_worlds_are_sane
