use Rattle.sl_host_passes.proofs.wakes.note_leases.Given as goal
use Rattle.std.proofs.Common.{map, take, ◌≡◌}

abbrev pub invariant-loop-place : goal.invariant-loop-place
invariant-loop-place l = l.spots ≡ record { items = map (λ l. l.spot) (take l.place l.leases.leases); most = l.fn.spots.most }
