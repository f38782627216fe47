use Rattle.sl_examples.proofs.SchedulesReplay.{acquiring, asking, ending, joining, pairs, resets, sharing, taking_over}
use Rattle.sl_examples.proofs.schedules_show.schedules_replay.Goals as goal

pub returns : goal.returns
returns c = record { acquiring = acquiring; joining = joining; taking_over = taking_over; resets = resets; sharing = sharing; ending = ending; asking = asking; pairs = pairs }
