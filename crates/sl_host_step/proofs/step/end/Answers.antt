use Rattle.sl_host_step.proofs.StepsMayCome.{moment_at_end}
use Rattle.sl_host_step.proofs.MomentsFollow.{finish_ends}
use Rattle.sl_host_step.proofs.KnownPasses.{finish_known}
use Rattle.sl_host_step.proofs.step.end.Goals as goal

pub finish-requires-clause-known : goal.finish-requires-clause-known
finish-requires-clause-known c =
    let at = c.requires.at in finish_known c.args.host.now.kept (moment_at_end at.0 at.1 at.2 c.args.host.now.kept at.3)

pub returns-clause-done : goal.returns-clause-done
returns-clause-done c now i first a = finish_ends now i first c.args.host.now c.finish.new.host a c.finish.ensures.state c.finish.ensures.run
