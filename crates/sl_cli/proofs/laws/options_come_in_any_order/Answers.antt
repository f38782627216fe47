use Rattle.sl_cli.proofs.SpellingLaws as its
use Rattle.sl_cli.proofs.laws.options_come_in_any_order.Goals as goal

pub returns : goal.returns
returns c = its.options_come_in_any_order
