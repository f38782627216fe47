use Rattle.sl_host_lines.proofs.told_lists.states_of.Given as goal
use Rattle.sl_host_lines.specs.ToldSessions.{states_in}
use Rattle.std.proofs.Common.{length, vec_capacity, ◌≡◌, ◌≤◌}

abbrev pub invariant-loop-before : goal.invariant-loop-before
invariant-loop-before l = record {
  made : l.states.items ≡ states_in l.now l.member.state l.before;
  long : length l.states.items ≡ l.before;
  room : l.hosts ≤ vec_capacity l.states;
}
