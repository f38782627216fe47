-- At an act anything may come; of a spare line, what moves on.
use Rattle.sl_story.proofs.StoryTold.{moves_any}
use Rattle.sl_story.proofs.story.tell_next.Goals as goal
use Rattle.std.proofs.Common.{arith, ◌<◌}

pub returns-then-at-gt0-clause-moves : goal.returns-then-at-gt0-clause-moves
returns-then-at-gt0-clause-moves g c =
    let some : 0 < c.args.at.acts = omega arith in moves_any c.args.at.acts c.tell_one.result some

pub returns-else-at-gt0-clause-moves : goal.returns-else-at-gt0-clause-moves
returns-else-at-gt0-clause-moves g c = c.tell_spare.ensures.moves c.args.at.acts
