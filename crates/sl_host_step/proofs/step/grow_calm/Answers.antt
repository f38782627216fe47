use Rattle.sl_host_passes.specs.NextMoment.{next_moment}
use Rattle.sl_host_step.proofs.StepsMayCome.{moment_when_done}
use Rattle.sl_host_step.proofs.MomentsFollow.{grows_calm, stays_calm}
use Rattle.sl_host_step.proofs.KnownPasses.{jobs_apart}
use Rattle.sl_host_work.specs.KilledMembers.{unread}
use Rattle.sl_host_step.proofs.step.grow_calm.Goals as goal

pub calm-requires-clause-apart : goal.calm-requires-clause-apart
calm-requires-clause-apart c =
    let d = c.requires.done in
    jobs_apart c.args.host.now.kept (moment_when_done d.0 d.1 d.2 c.args.host.now.kept d.3)

pub returns-then-job_count-job_room-clause-calm : goal.returns-then-job_count-job_room-clause-calm
returns-then-job_count-job_room-clause-calm c =
    grows_calm (next_moment (unread c.args.host.now.kept)) c.args.host.now c.calm.new.host c.calm.ensures.state c.calm.ensures.run c.calm.ensures.quiet

pub returns-else-is_loud-clause-calm : goal.returns-else-is_loud-clause-calm
returns-else-is_loud-clause-calm c =
    let d = c.requires.done in
    stays_calm d.0 d.1 d.2 c.args.host.now.kept d.3
