use Rattle.sl_host_step.proofs.AnswerSectors.{writes_fit}
use Rattle.sl_host_step.proofs.answer.step_answer.Goals as goal
use Rattle.sl_trace.specs.declared.input.Answer.TheVariants.{Written}
use Rattle.std.proofs.Common.{refl}

pub step_heard-requires-clause-fits : goal.step_heard-requires-clause-fits
step_heard-requires-clause-fits c d opens = writes_fit c.args.now c.args.number Written c.args.host.now.kept d (rw (← c.in-Written.is) c.requires.comes) opens refl
