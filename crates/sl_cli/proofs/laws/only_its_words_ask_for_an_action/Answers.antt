use Rattle.sl_cli.proofs.SpellingLaws as its
use Rattle.sl_cli.proofs.laws.only_its_words_ask_for_an_action.Goals as goal

pub returns : goal.returns
returns c = its.only_its_words_ask
