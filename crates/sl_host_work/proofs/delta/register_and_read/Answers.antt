use Rattle.sl_host_law.specs.Answers.CarriedDecisions.{reading_own, registering}
use Rattle.sl_host_state.specs.KeptState.{state_of}
use Rattle.sl_host_work.proofs.Sequences.{for_one}
use Rattle.sl_host_work.proofs.delta.register_and_read.Goals as goal
use Rattle.sl_trace.specs.declared.effects.Purpose.TheVariants.{Joining}
use Rattle.std.proofs.Common.{ap, ◌∙◌}

pub returns-in-Some-clause-state : goal.returns-in-Some-clause-state
returns-in-Some-clause-state c read =
    let who = c.args.who.now in
    c.read_own.ensures.state read
    ∙ (ap (reading_own who (Joining c.in-Some.job c.args.step)) (c.register.ensures.state read)
    ∙ for_one who c.in-Some.job (λ j g. reading_own who (Joining j c.args.step) (registering who g)) (state_of read c.args.host.now.kept) c.in-Some.is)
