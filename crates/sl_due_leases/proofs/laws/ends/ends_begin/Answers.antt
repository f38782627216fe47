use Rattle.sl_due_leases.proofs.Grants.EndsAreLawful as its
use Rattle.sl_due_leases.proofs.laws.ends.ends_begin.Goals as goal

pub returns : goal.returns
returns c = its.ends_begin
