-- Each line is cut off the front.
use Rattle.sl_story.proofs.heard.hear_reports.Given as goal
use Rattle.std.proofs.Common.{length}

abbrev pub decreases-loop-line : goal.decreases-loop-line
decreases-loop-line l = length l.rest
