use Rattle.sl_host.proofs.host_questions.leases_of.Given as goal
use Rattle.sl_host.specs.BookQuestions.{leases_in, most_counted}
use Rattle.std.proofs.Common.{min, take, ◌≡◌}

-- the leases of the members before this place are counted
abbrev pub invariant-loop-place : goal.invariant-loop-place
invariant-loop-place l = l.leases ≡ min (leases_in (take l.place l.members.members)) most_counted
