use Rattle.sl_due_leases.proofs.Leases.LawsAreKept as its
use Rattle.sl_due_leases.proofs.laws.leases.lease_laws_are_kept.Goals as goal

pub returns : goal.returns
returns c = its.laws_are_kept
