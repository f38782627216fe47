use Rattle.sl_alone.proofs.delta_told.surveyed.Goals as goal
use Rattle.sl_trace.specs.declared.input.Answer.TheVariants.{Failed}

pub returns : goal.returns
returns c = c.answered.ensures.state Failed
