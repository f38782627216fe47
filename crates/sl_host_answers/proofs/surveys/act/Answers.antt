use Rattle.sl_host_answers.proofs.SurveysStand.{known_still}
use Rattle.sl_host_answers.proofs.surveys.act.Goals as goal
use Rattle.sl_host_answers.specs.Surveys.{reading_asked}
use Rattle.std.proofs.Common.{ap, ◌∙◌}

pub read_asked-requires-clause-known : goal.read_asked-requires-clause-known
read_asked-requires-clause-known c =
    known_still c.args.host.now.kept c.stop_shown.new.host.kept c.stop_shown.ensures.run.0 c.stop_shown.ensures.run.1 c.stop_shown.ensures.stays c.requires.known

pub returns-clause-state : goal.returns-clause-state
returns-clause-state c read = c.read_asked.ensures.state read ∙ ap (reading_asked c.args.shown.now.asked c.args.spots.now.items) (c.stop_shown.ensures.state read)
