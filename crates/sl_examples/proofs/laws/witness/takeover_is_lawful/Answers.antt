use Rattle.sl_examples.proofs.Witness.TakeoverIsLawful.{takeover_is_lawful}
use Rattle.sl_examples.proofs.laws.witness.takeover_is_lawful.Goals as goal

pub returns : goal.returns
returns c = takeover_is_lawful
