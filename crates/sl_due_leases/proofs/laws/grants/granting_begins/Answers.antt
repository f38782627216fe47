use Rattle.sl_due_leases.proofs.Grants.ActiveGrants as its
use Rattle.sl_due_leases.proofs.laws.grants.granting_begins.Goals as goal

pub returns : goal.returns
returns c = its.granting_begins
