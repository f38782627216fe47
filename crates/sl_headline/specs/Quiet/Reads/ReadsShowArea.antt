-- What a read gives of places where nothing has landed since it was made.
use Rattle.sl_area.specs.AreaLayout.{area_sectors, block_offset, block_sectors, blocks_part, leader_of, sector_of}
use Rattle.sl_area.specs.Pairs.{blocks_of, pair_back, pair_front, read_once}
use Rattle.sl_run.specs.Quiet.{leader_there}
use Rattle.sl_run.specs.Runs.{Happening}
use Rattle.sl_run.specs.Safety.{LawfulRun, block_there, pair_there, world_at}
use Rattle.sl_run.specs.Worlds.{Course, Landing, Machine, Program, World, content, machine_at}
use Rattle.sl_run.specs.declared.header.Header.{Header}
use Rattle.sl_run_law.specs.Sample.Samples.{sector_place}
use Rattle.sl_sector.specs.declared.sector.Block.{Block}
use Rattle.sl_trace.specs.Traces.{same_place}
use Rattle.sl_trace.specs.declared.effects.Spot.{Spot}
use Rattle.std.specs.List.{range_with_len}
use Rattle.std.specs.Prelude.{Contains, List, Option, Some, false, length, map, true, ℕ, ◌<◌, ◌≡◌, ◌≤◌}

-- No landing of the place came after this step.
abbrev pub StandsSince : World → List ℕ → ℕ → ℕ → Type 0
StandsSince w path offset step = (l : Landing) → Contains w.landings l → same_place l.path l.offset path offset ≡ true → l.step ≤ step

-- A sector that was sampled is what the place holds, where no landing came after the read was made.
abbrev pub ReadsGiveWhatStands : Type 0
ReadsGiveWhatStands = (p : Program) (h : Header) (xs : List Happening) → LawfulRun p h xs → (m : ℕ) (a : Machine) (c : Course) (k : ℕ)
    → machine_at (world_at p h xs) m ≡ Some a → Contains a.calls c → k < length c.samples
    → StandsSince (world_at p h xs) c.call.path (sector_place (world_at p h xs) c k) c.made.step
    → sector_of (world_at p h xs).layout c.sampled k ≡ content (world_at p h xs) c.call.path (sector_place (world_at p h xs) c k)

-- What the blocks of hosts 1 to N spell now.
abbrev pub blocks_there : World → Spot → List (Option Block)
blocks_there w at = map (block_there w at) (range_with_len 1 w.layout.hosts)

-- A read that has all its samples, of places where nothing has landed since it was made.
pub record ReadStands (w : World) (c : Course) (n : ℕ) : Type 0 where
  pub whole : length c.samples ≡ n
  pub stands : (k : ℕ) → k < n → StandsSince w c.call.path (sector_place w c k) c.made.step

-- The bytes of all blocks are those that stand there, with pairs sector by sector.
pub record GivesBlocks (w : World) (at : Spot) (bytes : List ℕ) : Type 0 where
  pub blocks : blocks_of w.layout (read_once bytes) ≡ blocks_there w at
  pub pairs : w.layout.paired ≡ true → (host : ℕ) → 1 ≤ host → host ≤ w.layout.hosts
      → (pair_front w.layout bytes host ≡ pair_there w at host true) × (pair_back w.layout bytes host ≡ pair_there w at host false)

-- A read of a whole area shows what stands there, and so does a read of the blocks alone.
pub record ReadsShowTheArea : Type 0 where
  pub area : (p : Program) (h : Header) (xs : List Happening) → LawfulRun p h xs → (m : ℕ) (a : Machine) (c : Course) (at : Spot)
      → machine_at (world_at p h xs) m ≡ Some a → Contains a.calls c → c.call.path ≡ at.path → c.call.offset ≡ at.base
      → ReadStands (world_at p h xs) c (area_sectors (world_at p h xs).layout)
      → (leader_of (world_at p h xs).layout c.sampled ≡ leader_there (world_at p h xs) at)
      × GivesBlocks (world_at p h xs) at (blocks_part (world_at p h xs).layout c.sampled)
  pub blocks : (p : Program) (h : Header) (xs : List Happening) → LawfulRun p h xs → (m : ℕ) (a : Machine) (c : Course) (at : Spot)
      → machine_at (world_at p h xs) m ≡ Some a → Contains a.calls c → c.call.path ≡ at.path → c.call.offset ≡ block_offset (world_at p h xs).layout at.base 1
      → ReadStands (world_at p h xs) c (block_sectors (world_at p h xs).layout)
      → GivesBlocks (world_at p h xs) at c.sampled
