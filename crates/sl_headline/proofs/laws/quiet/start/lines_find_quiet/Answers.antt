use Rattle.sl_headline.proofs.Quiet.Start.LinesFindQuiet.{lines_find_quiet}
use Rattle.sl_headline.proofs.laws.quiet.start.lines_find_quiet.Goals as goal

pub returns : goal.returns
returns c = lines_find_quiet
