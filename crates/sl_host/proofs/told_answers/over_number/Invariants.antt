use Rattle.sl_host.proofs.told_answers.over_number.Given as goal
use Rattle.sl_host.specs.HeardAnswers.{is_over_in}
use Rattle.std.proofs.Common.{None, find, take, ◌≡◌}

abbrev pub invariant-loop-place : goal.invariant-loop-place
invariant-loop-place l = find (is_over_in l.unanswered.calls) (take l.place l.members.members) ≡ None
