use Rattle.sl_host_answers.proofs.surveys.note_areas.Given as goal
use Rattle.sl_host_state.specs.KeptState.{LeaseState}
use Rattle.std.proofs.Common.{map, take, ◌≡◌}

abbrev pub invariant-loop-place : goal.invariant-loop-place
invariant-loop-place l = l.spots ≡ record { items = map (λ (k : LeaseState). k.spot) (take l.place l.leases.leases); most = l.fn.spots.most }
