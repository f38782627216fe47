use Rattle.sl_live.proofs.children.mark.Goals as goal
use Rattle.sl_live.specs.Turns.{marked}
use Rattle.std.proofs.Common.{rules}
use Rattle.std.proofs.lemmas.List.Edits.{map_over_more}

pub loop-waiting-preserved : goal.loop-waiting-preserved
loop-waiting-preserved c = search (rules, map_over_more (marked c.args.signals.now))
