-- What a read of a resource's blocks has sampled: its bytes, and of each host the landings that it shows, one of its sector, or one of each
-- sector of its pair.
use Rattle.sl_area.specs.AreaSizes.{Layout, record_in}
use Rattle.sl_area.specs.AreaLayout.{block_offset, blocks_part, pair_offset}
use Rattle.sl_ballot_law.specs.Pairs.Reads.{merged}
use Rattle.sl_ballot_law.specs.Pairs.State.{Stored, later}
use Rattle.sl_run.specs.Worlds.{Course, Landing, World, history_of, machine_at}
use Rattle.sl_run_law.specs.Sample.Samples.{numbered_landing}
use Rattle.sl_sector.specs.SectorLayouts.{pair_in}
use Rattle.sl_trace.specs.Leases.{is_again, is_area_read}
use Rattle.sl_trace.specs.Traces.{new_call}
use Rattle.sl_trace.specs.declared.effects.Spot.{Spot}
use Rattle.std.specs.Option.{option_map_or}
use Rattle.std.specs.Prelude.{Bool, List, None, Option, Some, false, find, if◌then◌else◌, option_and_then, option_map, slice_get, true, ℕ, ◌*◌, ◌+◌, ◌-◌, ◌==◌}

-- ---- bytes

-- The bytes of all blocks.
abbrev pub blocks_sampled : Layout → Course → List ℕ
blocks_sampled g c = if is_area_read (new_call 0 0 c.call) then blocks_part g c.sampled else c.sampled

-- Whether the read is made once more.
abbrev pub reads_again : Course → Bool
reads_again c = is_again (new_call 0 0 c.call)

-- ---- landings

-- When the call that left a landing was made; 0 for what stood there at first.
abbrev pub step_of_landing : World → Landing → ℕ
step_of_landing w l =
    elim l.writer [
      | None ↦ 0
      | Some p ↦ option_map_or (λ c. c.made.step) (option_and_then (λ a. find (λ c. c.call.number == p.1) a.calls) (machine_at w p.0)) 0
    ]

-- ---- of one sector

-- Which of its sectors has the host's block.
abbrev pub sector_number : Course → ℕ → ℕ
sector_number c host = if is_area_read (new_call 0 0 c.call) then host + 1 else host - 1

-- The landing that the read shows of the host.
abbrev pub landing_shown : World → Spot → Course → ℕ → Option Landing
landing_shown w at c host =
    option_and_then (λ s. numbered_landing (history_of w at.path (block_offset w.layout at.base host)) s.index) (slice_get c.samples (sector_number c host))

-- ---- of a pair

-- Which of its sectors is the first or the second of the host's pair.
abbrev pub pair_number : Course → ℕ → Bool → ℕ
pair_number c k first =
    let j : ℕ = 2 * (k - 1) + (if first then 0 else 1) in
    if is_area_read (new_call 0 0 c.call) then j + 2 else j

-- The block of the host that a landing at a sector of its pair spells, by its write.
abbrev pub stored_in : World → ℕ → Bool → Landing → Option Stored
stored_in w k first l =
    option_map (λ q. record { turn = q.turn; write = step_of_landing w l }) (pair_in k first (record_in w.layout l.bytes))

-- The landing that the read shows of that sector.
abbrev pub sector_sampled : World → Spot → ℕ → Bool → Course → Option Landing
sector_sampled w at k first c =
    option_and_then (λ s. numbered_landing (history_of w at.path (pair_offset w.layout at.base k first)) s.index) (slice_get c.samples (pair_number c k first))

-- The block that the sector has in it.
abbrev pub stored_sampled : World → Spot → ℕ → Bool → Course → Option Stored
stored_sampled w at k first c = option_and_then (stored_in w k first) (sector_sampled w at k first c)

abbrev pub shown_once : World → Spot → ℕ → Course → Option Stored
shown_once w at k c = later (stored_sampled w at k true c) (stored_sampled w at k false c)

abbrev pub shown_twice : World → Spot → ℕ → Course → Course → Option Stored
shown_twice w at k first last =
    merged (stored_sampled w at k true first) (stored_sampled w at k false first) (stored_sampled w at k true last) (stored_sampled w at k false last)

-- The block that is shown by a read that began with the first of these calls and ended with the last.
abbrev pub shown_of : World → Spot → ℕ → Course → Course → Option Stored
shown_of w at k first last = elim (reads_again last) [ false ↦ shown_once w at k last | true ↦ shown_twice w at k first last ]
