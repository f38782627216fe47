use Rattle.sl_host_work.proofs.HeldStands.{otherwise_found}
use Rattle.sl_host_work.proofs.grants.held_otherwise.Goals as goal
use Rattle.std.proofs.Common.{◌∙◌}

pub returns-in-Some : goal.returns-in-Some
returns-in-Some c =
    let a = c.args in
    c.in-Some.ensures ∙ otherwise_found a.who.now a.at.now a.process a.mode c.other_mode.result a.host.now.kept.holdings c.other_mode.ensures

pub returns-in-None : goal.returns-in-None
returns-in-None c =
    let a = c.args in
    c.in-None.ensures ∙ otherwise_found a.who.now a.at.now a.process a.mode c.other_mode.result a.host.now.kept.holdings c.other_mode.ensures
