use Rattle.sl_headline.proofs.Quiet.Events.AnswersShow.{answers_show}
use Rattle.sl_headline.proofs.laws.quiet.events.answers_show.Goals as goal

pub returns : goal.returns
returns c = answers_show
