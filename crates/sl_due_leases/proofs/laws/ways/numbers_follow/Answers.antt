use Rattle.sl_due_leases.proofs.Ways.NumbersFollow as its
use Rattle.sl_due_leases.proofs.laws.ways.numbers_follow.Goals as goal

pub returns : goal.returns
returns c = its.numbers_follow
