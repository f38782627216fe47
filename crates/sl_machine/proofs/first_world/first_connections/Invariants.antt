use Rattle.sl_machine.proofs.first_world.first_connections.Given as goal
use Rattle.sl_run.specs.Worlds.{given_of}
use Rattle.sl_trace.specs.WatchdogConnections.{given_connection}
use Rattle.std.proofs.Common.{option_map, take, ◌≡◌}
use Rattle.std.specs.List.{filter_map}

-- the sessions before this one have their connections
abbrev pub invariant-loop-session : goal.invariant-loop-session
invariant-loop-session l =
    l.connections.connections ≡ filter_map (λ s. option_map (given_connection l.header.timing) (given_of l.header l.machine s)) (take l.session-index l.session-items)
