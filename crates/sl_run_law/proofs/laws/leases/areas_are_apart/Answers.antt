use Rattle.sl_run_law.proofs.Leases.SpotLaws.{areas_are_apart}
use Rattle.sl_run_law.proofs.laws.leases.areas_are_apart.Goals as goal

pub returns : goal.returns
returns c = areas_are_apart
