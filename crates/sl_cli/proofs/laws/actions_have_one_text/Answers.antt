use Rattle.sl_cli.proofs.ActionTexts as its
use Rattle.sl_cli.proofs.laws.actions_have_one_text.Goals as goal

pub returns : goal.returns
returns c = its.actions_have_one_text
