use Rattle.sl_world_law.proofs.FirstStanding.{pure_worlds_stand}
use Rattle.sl_world_law.proofs.standing_worlds.pure_worlds_stand.Goals as goal

pub returns : goal.returns
returns c = pure_worlds_stand
