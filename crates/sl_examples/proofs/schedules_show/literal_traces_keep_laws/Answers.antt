use Rattle.sl_examples.proofs.OwnTraces.{nobody_exits, own_area}
use Rattle.sl_examples.proofs.schedules_show.literal_traces_keep_laws.Goals as goal

pub returns : goal.returns
returns c = record { own_area = own_area; nobody_exits = nobody_exits }
