use Rattle.sl_wdmd.proofs.MappedLists.{front_mapped}
use Rattle.sl_wdmd.proofs.connection.renew.Given as goal
use Rattle.sl_trace.specs.WatchdogConnections.{renewed_connection}
use Rattle.std.proofs.Common.{vec_len, ◌≡◌}
use Rattle.std.specs.Vec.{vec_capacity}

-- the connections before this one are renewed
abbrev pub invariant-loop-index : goal.invariant-loop-index
invariant-loop-index l =
    (l.connections.items ≡ front_mapped (renewed_connection l.name l.expiry) l.index l.fn.connections.items) × (vec_len l.connections ≡ vec_len l.fn.connections)
    × (vec_capacity l.connections ≡ vec_capacity l.fn.connections)
