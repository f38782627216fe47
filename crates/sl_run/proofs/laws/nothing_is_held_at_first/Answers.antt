use Rattle.sl_run.proofs.FirstWorld.{nothing_is_held_at_first}
use Rattle.sl_run.proofs.laws.nothing_is_held_at_first.Goals as goal

pub returns : goal.returns
returns c = nothing_is_held_at_first
