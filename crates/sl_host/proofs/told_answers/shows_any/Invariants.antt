use Rattle.sl_host.proofs.told_answers.shows_any.Given as goal
use Rattle.sl_host.specs.HeardAnswers.{shows_at}
use Rattle.std.proofs.Common.{None, find, take, ◌≡◌}

abbrev pub invariant-loop-place : goal.invariant-loop-place
invariant-loop-place g l = find (shows_at l.members.run (g.S.Sectors.bytes l.sectors)) (take l.place l.members.members) ≡ None
