use Rattle.sl_examples.proofs.QuietPremises.PremisesSuffice.{all_are_the_law}
use Rattle.sl_examples.proofs.laws.quiet_premises.all_are_the_law.Goals as goal

pub returns : goal.returns
returns c = all_are_the_law
