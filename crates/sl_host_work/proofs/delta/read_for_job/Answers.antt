use Rattle.sl_host_law.specs.Answers.CarriedDecisions.{reading_own}
use Rattle.sl_host_state.specs.KeptState.{state_of}
use Rattle.sl_host_work.proofs.Sequences.{for_one}
use Rattle.sl_host_work.proofs.delta.read_for_job.Goals as goal
use Rattle.sl_trace.specs.declared.effects.Purpose.TheVariants.{Joining}
use Rattle.std.proofs.Common.{◌∙◌}

pub returns-in-Some-clause-state : goal.returns-in-Some-clause-state
returns-in-Some-clause-state c read =
    let who = c.args.who.now in
    c.read_own.ensures.state read ∙ for_one who c.in-Some.job (λ j. reading_own who (Joining j c.args.step)) (state_of read c.args.host.now.kept) c.in-Some.is
