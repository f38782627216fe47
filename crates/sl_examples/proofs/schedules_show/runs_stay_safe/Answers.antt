use Rattle.sl_examples.proofs.RunsStaySafe.{acquiring, asking, ending, joining, later_conversion, later_orphans, pairs, rivals, sharing, taking_over}
use Rattle.sl_examples.proofs.schedules_show.runs_stay_safe.Goals as goal

pub returns : goal.returns
returns c = record {
  acquiring = acquiring;
  rivals = rivals;
  joining = joining;
  taking_over = taking_over;
  sharing = sharing;
  ending = ending;
  asking = asking;
  pairs = pairs;
  orphans = later_orphans;
  conversions = later_conversion;
}
