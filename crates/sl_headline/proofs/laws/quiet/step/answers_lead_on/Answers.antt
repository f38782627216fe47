use Rattle.sl_headline.proofs.Quiet.Step.AnswersLeadOn.{answers_lead_on}
use Rattle.sl_headline.proofs.laws.quiet.step.answers_lead_on.Goals as goal

pub returns : goal.returns
returns c = answers_lead_on
