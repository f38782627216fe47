use Rattle.sl_live.proofs.read_before.keep.Given as goal
use Rattle.std.proofs.Common.{vec_len, ◌+◌, ◌-◌}

abbrev pub decreases-loop-last : goal.decreases-loop-last
decreases-loop-last l = l.place + 1 - vec_len l.last
