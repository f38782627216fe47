use Rattle.sl_host_law.specs.Answers.RefusalsFollow.{timing_out}
use Rattle.sl_host_law.specs.StepParts.Recoveries.{killing}
use Rattle.sl_host_law.specs.StepParts.Signals.{over}
use Rattle.sl_host_law.specs.Steps.Passes.{for_jobs}
use Rattle.sl_host_law.specs.Steps.StepFunction.{before_taking}
use Rattle.sl_host_passes.proofs.LessIsLeft.{lessened, no_more}
use Rattle.sl_host_passes.proofs.PartsLessen.{before_lessens}
use Rattle.sl_host_passes.proofs.due_before_input.before_input.Goals as goal
use Rattle.sl_host_state.specs.KeptState.{HostState}
use Rattle.std.proofs.Common.{ap, ◌∙◌}

pub returns-clause-fewer : goal.returns-clause-fewer
returns-clause-fewer c =
    no_more c.args.host.now.kept c.time_out_all.new.host.kept
    (lessened c.args.host.now c.time_out_all.new.host before_taking before_lessens
    (λ read. c.time_out_all.ensures.state read
    ∙ (ap (λ h. for_jobs timing_out h) (c.kill_all.ensures.state read)
    ∙ ap (λ (h : HostState). for_jobs timing_out (over h.members killing h)) (c.recover_all.ensures.state read))))
