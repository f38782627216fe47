use Rattle.sl_host_law.proofs.Replies.Answers.AnswersAreHeard as its
use Rattle.sl_host_law.proofs.laws.replies.answers_are_heard.Goals as goal

pub returns : goal.returns
returns c = its.answers_are_heard
