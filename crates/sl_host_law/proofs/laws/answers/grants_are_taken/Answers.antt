use Rattle.sl_host_law.proofs.Answers.GrantsAreTaken as its
use Rattle.sl_host_law.proofs.laws.answers.grants_are_taken.Goals as goal

pub returns : goal.returns
returns c = its.grants_are_taken
