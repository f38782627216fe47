use Rattle.sl_command.proofs.replies.push_each_session.Given as goal
use Rattle.sl_command.specs.OutputLines.{KeepsFronts, behind, session_word}
use Rattle.std.proofs.Common.{map, take, ◌++◌, ◌≡◌}

-- the sessions before this one have been added
abbrev pub invariant-loop-session : goal.invariant-loop-session
invariant-loop-session l = record {
  written : l.out.items ≡ l.fn.out.items ++ behind (map session_word (take l.session-index l.sessions));
  kept : KeepsFronts l.fn.out.items l.out.items;
}
