use Rattle.sl_command.proofs.replies.push_each_state.Given as goal
use Rattle.sl_command.specs.OutputLines.{KeepsFronts, behind, host_words}
use Rattle.std.proofs.Common.{take, ◌++◌, ◌≡◌}

-- the ids before this one have been added where they are not free
abbrev pub invariant-loop-host : goal.invariant-loop-host
invariant-loop-host l = record {
  written : l.out.items ≡ l.fn.out.items ++ behind (host_words (take l.host-index l.hosts));
  kept : KeepsFronts l.fn.out.items l.out.items;
}
