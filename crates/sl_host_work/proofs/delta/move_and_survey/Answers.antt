use Rattle.sl_host_law.specs.Answers.CarriedDecisions.{surveying}
use Rattle.sl_host_work.proofs.delta.move_and_survey.Goals as goal
use Rattle.std.proofs.Common.{ap, ◌∙◌}

pub returns-clause-state : goal.returns-clause-state
returns-clause-state c read = c.survey.ensures.state read ∙ ap (surveying c.args.who.now) (c.connect.ensures.state read)
