use Rattle.sl_run_law.proofs.Course.DaemonsOfWorld.{daemons_are_of_world}
use Rattle.sl_run_law.proofs.laws.course.daemons_are_of_world.Goals as goal

pub returns : goal.returns
returns c = daemons_are_of_world
