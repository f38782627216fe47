use Rattle.sl_headline.proofs.Quiet.Start.StartsOfLines.{starts_are_of_lines}
use Rattle.sl_headline.proofs.laws.quiet.start.starts_are_of_lines.Goals as goal

pub returns : goal.returns
returns c = starts_are_of_lines
