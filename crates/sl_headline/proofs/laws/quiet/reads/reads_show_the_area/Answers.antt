use Rattle.sl_headline.proofs.Quiet.Reads.ReadsShowArea.{reads_show_the_area}
use Rattle.sl_headline.proofs.laws.quiet.reads.reads_show_the_area.Goals as goal

pub returns : goal.returns
returns c = reads_show_the_area
