use Rattle.sl_world_law.proofs.FirstDaemons.{first_settings}
use Rattle.sl_world_law.proofs.standing_worlds.first_settings.Goals as goal

pub returns : goal.returns
returns c = first_settings
