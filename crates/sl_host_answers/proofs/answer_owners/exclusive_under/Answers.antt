use Rattle.sl_host_answers.proofs.answer_owners.exclusive_under.Goals as goal
use Rattle.sl_host_work.proofs.HeldStands.{exclusive_found}
use Rattle.sl_words.proofs.Lists.{find_inside}
use Rattle.std.proofs.Common.{sym, ◌∙◌}

pub returns-in-Some-clause-exact : goal.returns-in-Some-clause-exact
returns-in-Some-clause-exact c = c.in-Some.ensures ∙ exclusive_found c.args.session c.args.at.now c.args.host.now.kept.holdings

pub returns-in-Some-clause-inside : goal.returns-in-Some-clause-inside
returns-in-Some-clause-inside c = (find_inside _ c.args.host.now.kept.holdings c.in-Some.held.now (sym c.in-Some.ensures)).0

pub returns-in-None-clause-exact : goal.returns-in-None-clause-exact
returns-in-None-clause-exact c = c.in-None.ensures ∙ exclusive_found c.args.session c.args.at.now c.args.host.now.kept.holdings
