use Rattle.sl_host_step.proofs.LinePremises.{may_be_seated}
use Rattle.sl_host_step.proofs.line.step_command.Goals as goal

pub seat_for-requires : goal.seat_for-requires
seat_for-requires c = let asked = c.requires.comes in may_be_seated c.args.now asked.0 c.args.host.now.kept c.args.command.now asked.1 asked.2
