use Rattle.sl_host_state.specs.MadeEffects.{new_lease}
use Rattle.sl_host_work.proofs.asked_lease.lease_on.Goals as goal
use Rattle.std.proofs.Common.{ap, ◌∙◌}
use Rattle.std.specs.Prelude.{unwrap_or}

pub returns-in-Some : goal.returns-in-Some
returns-in-Some c = ap (λ o. unwrap_or o (new_lease c.args.at.now)) c.in-Some.ensures

pub returns-in-None : goal.returns-in-None
returns-in-None c = c.requires ∙ ap (λ o. unwrap_or o (new_lease c.args.at.now)) c.in-None.ensures
