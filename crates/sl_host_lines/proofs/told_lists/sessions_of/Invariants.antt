use Rattle.sl_host_lines.proofs.told_lists.sessions_of.Given as goal
use Rattle.sl_host_lines.specs.ToldSessions.{sessions_in}
use Rattle.std.proofs.Common.{length, take, vec_capacity, ◌≡◌, ◌≤◌}

abbrev pub invariant-loop-place : goal.invariant-loop-place
invariant-loop-place l = record {
  made : l.sessions.items ≡ sessions_in (take l.place l.members.members);
  long : length l.sessions.items ≤ l.place;
  room : length l.members.members ≤ vec_capacity l.sessions;
}
