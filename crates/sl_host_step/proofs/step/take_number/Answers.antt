use Rattle.sl_host_step.proofs.MomentsFollow.{number_ends}
use Rattle.sl_host_step.proofs.step.take_number.Goals as goal

pub returns-clause-at : goal.returns-clause-at
returns-clause-at c now text first a = number_ends now text first c.args.host.now c.number_line.new.self a c.number_line.ensures.state c.number_line.ensures.run
