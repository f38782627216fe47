use Rattle.sl_trace.specs.WatchdogConnections.{given_connection}
use Rattle.sl_wdmd.proofs.wdmd.Wdmd.given.Given as goal
use Rattle.std.proofs.Common.{map, take, ◌≡◌}

-- the sessions before this one have their connections
abbrev pub invariant-loop-session : goal.invariant-loop-session
invariant-loop-session l = l.wdmd ≡ record { connections = map (given_connection l.timing) (take l.session-index l.given); room = 0 }
