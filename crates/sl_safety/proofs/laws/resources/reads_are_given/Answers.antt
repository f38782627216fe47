use Rattle.sl_safety.proofs.GivenReads.ReadsAreGiven.{reads_are_given}
use Rattle.sl_safety.proofs.laws.resources.reads_are_given.Goals as goal

pub returns : goal.returns
returns c = reads_are_given
