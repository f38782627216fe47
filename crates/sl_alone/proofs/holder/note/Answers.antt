use Rattle.sl_alone.proofs.holder.note.Goals as goal
use Rattle.sl_alone.specs.DueSignals.{noted}
use Rattle.std.proofs.Common.{rules}
use Rattle.std.proofs.lemmas.List.Edits.{map_over_more}

pub loop-holder-preserved : goal.loop-holder-preserved
loop-holder-preserved c = search (rules, map_over_more (noted c.args.sent))
