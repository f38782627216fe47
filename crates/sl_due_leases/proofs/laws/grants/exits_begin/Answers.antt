use Rattle.sl_due_leases.proofs.Grants.ExitsAreLawful as its
use Rattle.sl_due_leases.proofs.laws.grants.exits_begin.Goals as goal

pub returns : goal.returns
returns c = its.exits_begin
