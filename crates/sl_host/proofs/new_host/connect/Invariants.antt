use Rattle.sl_host.proofs.new_host.connect.Given as goal
use Rattle.std.proofs.Common.{length, map, take, ◌+◌, ◌≡◌, ◌≤◌}

-- the connections before this place stand, and there is memory for the others
abbrev pub invariant-loop-place : goal.invariant-loop-place
invariant-loop-place l = (l.connected.names ≡ map (λ g. g.lockspace) (take l.place l.given)) × (length l.given ≤ l.connected.room + l.place)
