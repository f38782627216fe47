use Rattle.sl_host_law.specs.Answers.RefusalsFollow.{refusing}
use Rattle.sl_host_state.specs.KeptState.{state_of}
use Rattle.sl_host_work.proofs.Sequences.{for_one}
use Rattle.sl_host_work.proofs.delta.refuse_join.Goals as goal
use Rattle.std.proofs.Common.{◌∙◌}

pub returns-in-Some-clause-state : goal.returns-in-Some-clause-state
returns-in-Some-clause-state c read = c.refuse.ensures.state read ∙ for_one c.args.who.now c.in-Some.job (λ j. refusing j c.args.reply) (state_of read c.args.host.now.kept) c.in-Some.is
