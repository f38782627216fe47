use Rattle.sl_host_law.proofs.Answers.DecisionsAreCarried as its
use Rattle.sl_host_law.proofs.laws.answers.decisions_are_carried.Goals as goal

pub returns : goal.returns
returns c = its.decisions_are_carried
