use Rattle.sl_world_state.specs.KeptWorld.{Place, sector_of_call}
use Rattle.sl_machine.proofs.kept_world.Kept.next_sectors.Goals as goal
use Rattle.sl_machine.specs.CallWrites.{at_first, samples_of}
use Rattle.sl_machine.specs.KeptParts.{kept_state}
use Rattle.std.proofs.Common.{Option, ap, ap₂, flat_map, ℕ, ◌++◌, ◌∙◌}
use Rattle.std.specs.List.{range_with_len}

pub returns-clause-bytes : goal.returns-clause-bytes
unfolding kept_state
returns-clause-bytes g c =
    let disks = c.args.self.now.disks.sectors in
    let n : ℕ = c.args.sectors in
    λ f there.
    ap (λ b. f.sampled ++ b)
    (c.in_ok-more.ensures.bytes
    ∙ ap₂ (λ (p : Option Place) (s : ℕ). flat_map (sector_of_call disks p) (range_with_len s n))
    (c.place_of_flight-place.ensures ∙ ap at_first (c.flight.ensures ∙ there)) (c.samples_of-first.ensures ∙ ap samples_of (c.flight-2.ensures ∙ there)))
