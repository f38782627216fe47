use Rattle.sl_headline.proofs.Quiet.Leases.CallsStay.{leases_stay}
use Rattle.sl_headline.proofs.laws.quiet.leases.leases_stay.Goals as goal

pub returns : goal.returns
returns c = leases_stay
