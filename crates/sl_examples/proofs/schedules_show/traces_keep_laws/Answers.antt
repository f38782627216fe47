use Rattle.sl_examples.proofs.TracesKeepLaws.{acquiring, asking, ending, joining, later_conversion, later_lines, later_orphans, later_programs, pairs, sharing, taking_over}
use Rattle.sl_examples.proofs.schedules_show.traces_keep_laws.Goals as goal

pub returns : goal.returns
returns c = record {
  acquiring = acquiring;
  joining = joining;
  taking_over = taking_over;
  sharing = sharing;
  ending = ending;
  asking = asking;
  pairs = pairs;
  orphans = later_orphans;
  conversions = later_conversion;
  programs = later_programs;
  locks = later_lines;
}
