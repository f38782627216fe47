use Rattle.sl_safety.proofs.GivenReads.ReadsAreGiven.{reads_show_newest}
use Rattle.sl_safety.proofs.laws.resources.reads_show_newest.Goals as goal

pub returns : goal.returns
returns c = reads_show_newest
