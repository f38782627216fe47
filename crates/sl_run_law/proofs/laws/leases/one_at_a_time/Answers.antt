use Rattle.sl_run_law.proofs.Leases.TurnLaws.{one_at_a_time}
use Rattle.sl_run_law.proofs.laws.leases.one_at_a_time.Goals as goal

pub returns : goal.returns
returns c = one_at_a_time
