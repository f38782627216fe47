use Rattle.sl_lease.proofs.RecordFacts.{instance_least}
use Rattle.sl_lease.proofs.lease.Lease.instance_for.Goals as goal
use Rattle.std.proofs.Common.{sym, ◌∙◌}

pub returns-clause-least : goal.returns-clause-least
returns-clause-least g c = λ n e. instance_least _ _ _ _ _ n c.requires (sym c.instance_of.ensures ∙ e)
