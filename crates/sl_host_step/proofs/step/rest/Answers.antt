use Rattle.sl_host_step.proofs.MomentsFollow.{rests}
use Rattle.sl_host_step.proofs.step.rest.Goals as goal

pub returns-clause-over : goal.returns-clause-over
returns-clause-over c now i first k done calm =
    rests now i first k c.rest.result c.args.host.now c.rest.new.self done calm c.rest.ensures.effects c.rest.ensures.state c.rest.ensures.run.0
