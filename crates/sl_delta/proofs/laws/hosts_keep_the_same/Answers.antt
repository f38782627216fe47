use Rattle.sl_delta.proofs.EnoughLaws as lemmas
use Rattle.sl_delta.proofs.laws.hosts_keep_the_same.Goals as goal

pub returns : goal.returns
returns c = lemmas.hosts_keep_the_same
