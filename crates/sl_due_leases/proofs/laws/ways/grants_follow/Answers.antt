use Rattle.sl_due_leases.proofs.Ways.WaysAreLawful.GrantsFollow as its
use Rattle.sl_due_leases.proofs.laws.ways.grants_follow.Goals as goal

pub returns : goal.returns
returns c = its.grants_follow
