use Rattle.sl_host_answers.proofs.looks.exclusive_at.Goals as goal
use Rattle.sl_host_answers.specs.Looks.{exclusive_under}
use Rattle.sl_trace.specs.declared.session.Session.{Session}
use Rattle.std.proofs.Common.{ap, ◌∙◌}

pub returns : goal.returns
returns c = c.exclusive_under.ensures.exact ∙ ap (λ (s : Session). exclusive_under s.number c.args.at.now c.args.host.now.kept.holdings) c.who.ensures
