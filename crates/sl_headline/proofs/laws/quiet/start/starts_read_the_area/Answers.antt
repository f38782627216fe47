use Rattle.sl_headline.proofs.Quiet.Start.LinesFindQuiet.{starts_read_the_area}
use Rattle.sl_headline.proofs.laws.quiet.start.starts_read_the_area.Goals as goal

pub returns : goal.returns
returns c = starts_read_the_area
