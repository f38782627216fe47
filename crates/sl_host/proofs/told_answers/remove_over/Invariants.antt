use Rattle.sl_host.proofs.AnswersTold.{left_of}
use Rattle.sl_host.proofs.told_answers.remove_over.Given as goal
use Rattle.std.proofs.Common.{length, ◌≡◌}

abbrev pub invariant-loop-number : goal.invariant-loop-number
invariant-loop-number l = left_of l.unanswered.calls l.members ≡ left_of l.unanswered.calls l.fn.members

abbrev pub decreases-loop-number : goal.decreases-loop-number
decreases-loop-number l = length l.members.members
