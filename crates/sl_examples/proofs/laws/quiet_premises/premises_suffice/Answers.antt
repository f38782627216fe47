use Rattle.sl_examples.proofs.QuietPremises.PremisesSuffice.{premises_suffice}
use Rattle.sl_examples.proofs.laws.quiet_premises.premises_suffice.Goals as goal

pub returns : goal.returns
returns c = premises_suffice
