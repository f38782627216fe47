use Rattle.sl_live.proofs.children.mark_all.Goals as goal
use Rattle.sl_live.specs.Turns.{doomed}
use Rattle.std.proofs.Common.{rules}
use Rattle.std.proofs.lemmas.List.Edits.{map_over_more}

pub loop-waiting-preserved : goal.loop-waiting-preserved
loop-waiting-preserved c = search (rules, map_over_more doomed)
