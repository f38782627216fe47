use Rattle.sl_due_leases.proofs.Ways.WaysAreLawful.BallotLaws as its
use Rattle.sl_due_leases.proofs.laws.ways.ways_are_lawful.Goals as goal

pub returns : goal.returns
returns c = its.ways_are_lawful
