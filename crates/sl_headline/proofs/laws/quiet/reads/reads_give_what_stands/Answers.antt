use Rattle.sl_headline.proofs.Quiet.Reads.NewestIsRead.{reads_give_what_stands}
use Rattle.sl_headline.proofs.laws.quiet.reads.reads_give_what_stands.Goals as goal

pub returns : goal.returns
returns c = reads_give_what_stands
