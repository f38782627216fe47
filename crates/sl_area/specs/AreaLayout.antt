-- Where records stand in an area, and the parts of what a read gives.
use Rattle.sl_area.specs.AreaSizes.{Layout, record_in}
use Rattle.sl_sector.specs.SectorLayouts.{block_in, delta_in, is_first_turn, leader_in, pair_leader_in}
use Rattle.sl_sector.specs.declared.sector.Bad.{Bad}
use Rattle.sl_sector.specs.declared.sector.Block.{Block}
use Rattle.sl_sector.specs.declared.sector.DeltaRec.{DeltaRec}
use Rattle.sl_sector.specs.declared.sector.Leader.{Leader}
use Rattle.sl_sector.specs.declared.sector.Rec.{Rec}
use Rattle.std.specs.List.{range_with_len}
use Rattle.std.specs.Prelude.{Bool, List, Option, Result, drop, false, if◌then◌else◌, map, nat_le, nat_lt, take, true, ℕ, ◌%◌, ◌&&◌, ◌*◌, ◌+◌, ◌-◌, ◌==◌, ◌^◌}

-- Where the delta sector of an id stands.
abbrev pub delta_offset : Layout → ℕ → ℕ → ℕ
delta_offset g base id = base + g.sector * (id - 1)

-- Where the leader stands.
abbrev pub leader_offset : ℕ → ℕ
leader_offset base = base

-- Where the request stands.
abbrev pub request_offset : Layout → ℕ → ℕ
request_offset g base = base + g.sector

-- Where a host's block stands, if it has one sector.
abbrev pub block_offset : Layout → ℕ → ℕ → ℕ
block_offset g base id = base + g.sector * (id + 1)

-- Where the first or the second sector of a host's pair stands.
abbrev pub pair_offset : Layout → ℕ → ℕ → Bool → ℕ
pair_offset g base id first = base + g.sector * (2 * id + (if first then 0 else 1))

-- Where a host's block of this turn stands: with pairs in the first sector for an odd turn, in the second for an even one.
abbrev pub block_place : Layout → ℕ → ℕ → ℕ → ℕ
block_place g base id turn = elim g.paired [ false ↦ block_offset g base id | true ↦ pair_offset g base id (is_first_turn turn) ]

-- How many sectors the blocks of all hosts have.
abbrev pub block_sectors : Layout → ℕ
block_sectors g = elim g.paired [ false ↦ g.hosts | true ↦ 2 * g.hosts ]

-- How many sectors leader, request and blocks have.
abbrev pub area_sectors : Layout → ℕ
area_sectors g = block_sectors g + 2

-- Where the value stands: in the area's last sector.
abbrev pub value_offset : Layout → ℕ → ℕ
value_offset g base = base + g.area - g.sector

-- Bases are multiples of the area's size, below 10^12.
abbrev pub is_base : Layout → ℕ → Bool
is_base g offset = offset % g.area == 0 && nat_lt offset (10 ^ 12)

-- The offset lies in the area at this base.
abbrev pub in_area : Layout → ℕ → ℕ → Bool
in_area g base offset = nat_le base offset && nat_lt offset (base + g.area)

-- Sector k of what a read gave.
abbrev pub sector_of : Layout → List ℕ → ℕ → List ℕ
sector_of g bs k = take g.sector (drop (k * g.sector) bs)

-- What sector k of a read's bytes spells.
abbrev pub read_at : Layout → List ℕ → ℕ → Result Rec Bad
read_at g bs k = record_in g (sector_of g bs k)

-- A read of a lockspace's delta sectors: that of id k.
abbrev pub delta_of : Layout → List ℕ → ℕ → Option DeltaRec
delta_of g bs id = delta_in (read_at g bs (id - 1))

-- What spells the leader: with pairs it has a record of its own, so that an area of one kind is never read as one of the other.
abbrev pub leader_spelled : Layout → Result Rec Bad → Option Leader
leader_spelled g r = elim g.paired [ false ↦ leader_in r | true ↦ pair_leader_in r ]

-- A read that begins with the leader's sector: the leader.
abbrev pub leader_of : Layout → List ℕ → Option Leader
leader_of g bs = leader_spelled g (read_at g bs 0)

-- A read of all blocks, of one sector each: those of hosts 1 to N, each if it spells one.
abbrev pub blocks_in : Layout → List ℕ → List (Option Block)
blocks_in g bs = map (λ k. block_in k (read_at g bs (k - 1))) (range_with_len 1 g.hosts)

-- Of a read of leader, request and all blocks, the blocks' part.
abbrev pub blocks_part : Layout → List ℕ → List ℕ
blocks_part g bs = drop (2 * g.sector) bs

-- Such a read: the blocks.
abbrev pub area_blocks : Layout → List ℕ → List (Option Block)
area_blocks g bs = blocks_in g (blocks_part g bs)
