use Rattle.sl_delta.proofs.EnoughLaws as lemmas
use Rattle.sl_delta.proofs.laws.kept_is_enough.Goals as goal

pub returns : goal.returns
returns c = lemmas.kept_is_enough
