-- What holds of areas that were initialised, and of what is told of a leader.
use Rattle.sha2.specs.Sha256.{sha256}
use Rattle.sl_area.specs.AreaSizes.{IsGeometry, Sizes, layout_of}
use Rattle.sl_area.specs.AreaLayout.{block_offset, delta_offset, leader_offset, pair_offset, request_offset, value_offset}
use Rattle.sl_area.specs.AreaRecords.{fresh_block, fresh_delta, fresh_leader, fresh_pair, leader_record, no_request, no_value}
use Rattle.sl_direct.specs.Actions.{Directs, IsAction}
use Rattle.sl_direct.specs.Disks.{Holds, HoldsFront}
use Rattle.sl_direct.specs.FreshAreas.{leader_write, lockspace_writes, resource_writes}
use Rattle.sl_direct.specs.Lines.{is_its_leader, leader_in_sector}
use Rattle.sl_direct.specs.declared.action.Action.TheVariants.{InitResource, ReadLeader, Upgrade}
use Rattle.sl_direct.specs.declared.action.Action.{Action}
use Rattle.sl_direct.specs.Upgrades.{old_block_in, old_leader_in, right_leader}
use Rattle.sl_direct.specs.declared.action.Directed.TheVariants.{Done, NotTheLeader, TornBlock}
use Rattle.sl_direct.specs.declared.action.Directed.{Directed}
use Rattle.sl_sector.specs.SectorLayouts.{decoded}
use Rattle.sl_sector.specs.declared.sector.Bad.{Bad}
use Rattle.sl_sector.specs.declared.sector.Rec.TheVariants.{BlockIs, DeltaIs, PairIs, RequestIs, ValueIs}
use Rattle.sl_sector.specs.declared.sector.Rec.{Rec}
use Rattle.sl_text.specs.Names.{is_name}
use Rattle.sl_trace.specs.declared.command.ResourceArg.{ResourceArg}
use Rattle.std.specs.List.{list_all, range_with_len}
use Rattle.std.specs.Prelude.{Bool, IsTrue, List, Ok, Option, Result, Some, drop, false, if◌then◌else◌, is_some, take, true, ℕ, ◌&&◌, ◌≡◌, ◌≢◌, ◌≤◌, ◌⊎◌}

-- The sector of so many bytes that begins at an offset.
abbrev pub sector_at : ℕ → ℕ → List ℕ → List ℕ
sector_at size at content = take size (drop at content)

-- What it spells.
abbrev pub spelled_at : ℕ → ℕ → List ℕ → Result Rec Bad
spelled_at size at content = decoded sha256 (sector_at size at content)

-- In a lockspace that was initialised the sector of each id spells a record that was never claimed.
abbrev pub LockspaceStands : Type 0
LockspaceStands =
    (g : Sizes) (name : List ℕ) (base : ℕ) (before after : List ℕ) → IsGeometry g → IsTrue (is_name name)
    → Holds (lockspace_writes (layout_of g) name base) before after
    → (id : ℕ) → 1 ≤ id → id ≤ g.hosts → spelled_at g.sector (delta_offset (layout_of g) base id) after ≡ Ok (DeltaIs (fresh_delta name id))

-- What the sectors of a resource spell that nobody has used.
pub record IsFreshResource (g : Sizes) (space name : List ℕ) (base : ℕ) (content : List ℕ) : Type 0 where
  pub leader : spelled_at g.sector (leader_offset base) content ≡ Ok (leader_record (layout_of g) (fresh_leader (layout_of g) space name))
  pub request : spelled_at g.sector (request_offset (layout_of g) base) content ≡ Ok (RequestIs no_request)
  -- without pairs, each host's block; with pairs, the block of turn 1 and that of turn 2 in each host's pair
  pub blocks : g.paired ≡ false → (id : ℕ) → 1 ≤ id → id ≤ g.hosts
      → spelled_at g.sector (block_offset (layout_of g) base id) content ≡ Ok (BlockIs (fresh_block id))
  pub pairs : g.paired ≡ true → (id : ℕ) → 1 ≤ id → id ≤ g.hosts → (first : Bool)
      → spelled_at g.sector (pair_offset (layout_of g) base id first) content ≡ Ok (PairIs (fresh_pair id (if first then 1 else 2) space name))
  pub value : spelled_at g.sector (value_offset (layout_of g) base) content ≡ Ok (ValueIs no_value)

-- A resource that was initialised is such a one.
abbrev pub ResourceStands : Type 0
ResourceStands =
    (g : Sizes) (space name : List ℕ) (base : ℕ) (before after : List ℕ) → IsGeometry g → IsTrue (is_name space) → IsTrue (is_name name)
    → Holds (resource_writes (layout_of g) space name base) before after → IsFreshResource g space name base after

-- Where the initialising of a resource broke off, the leader's sector is as it was, unless it was the leader's own write that failed.
abbrev pub LeaderIsLast : Type 0
LeaderIsLast =
    (g : Sizes) (space name : List ℕ) (base : ℕ) (before after : List ℕ) → IsGeometry g → IsTrue (is_name space) → IsTrue (is_name name)
    → (front : HoldsFront (resource_writes (layout_of g) space name base) before after)
    → (sector_at g.sector (leader_offset base) after ≡ sector_at g.sector (leader_offset base) before) ⊎ (front.next ≡ leader_write (layout_of g) space name base)

-- Whether the sector of so many bytes at a resource's offset spells its leader.
abbrev pub has_its_leader : ResourceArg → ℕ → List ℕ → Type 0
has_its_leader r size content = IsTrue (is_its_leader r (leader_in_sector (sector_at size r.offset content)))

-- Where the content is told, a look at a leader is done only where the sector spells the resource's leader, and answers `NotTheLeader`
-- only where it doesn't. No other action but an upgrade answers that.
pub record LeaderIsTold : Type 0 where
  pub right : (r : ResourceArg) (g : Sizes) (content : List ℕ) (after : Option (List ℕ)) (faults later : ℕ) (taken now : Option (List ℕ)) (sink_faults sink_later : ℕ)
      → Directs (ReadLeader r g) (Some content) after faults later taken now sink_faults sink_later Done → has_its_leader r g.sector content
  pub wrong : (r : ResourceArg) (g : Sizes) (content : List ℕ) (after : Option (List ℕ)) (faults later : ℕ) (taken now : Option (List ℕ)) (sink_faults sink_later : ℕ)
      → Directs (ReadLeader r g) (Some content) after faults later taken now sink_faults sink_later NotTheLeader
      → is_its_leader r (leader_in_sector (sector_at g.sector r.offset content)) ≡ false
  pub other : (a : Action) (content after : Option (List ℕ)) (faults later : ℕ) (taken now : Option (List ℕ)) (sink_faults sink_later : ℕ)
      → Directs a content after faults later taken now sink_faults sink_later NotTheLeader
      → (r : ResourceArg) × (g : Sizes) × ((a ≡ ReadLeader r g) ⊎ (a ≡ Upgrade r g))

-- What was initialised is found: behind an initialising of a resource that was done, a look at its leader, in sectors of the same size,
-- doesn't answer `NotTheLeader`.
abbrev pub InitialisedIsFound : Type 0
InitialisedIsFound =
    (r : ResourceArg) (g look : Sizes) (before : List ℕ) (between after : Option (List ℕ)) (e f h : ℕ) (t u v : Option (List ℕ)) (p q s : ℕ) (d : Directed)
    → IsAction (InitResource r g) → look.sector ≡ g.sector → Directs (InitResource r g) (Some before) between e f t u p q Done
    → Directs (ReadLeader r look) between after f h u v q s d → d ≢ NotTheLeader

-- ---- an upgrade

-- Whether the sector of so many bytes at a host's block spells one.
abbrev pub has_block : Sizes → ℕ → List ℕ → ℕ → Bool
has_block g base content id = is_some (old_block_in id (sector_at g.sector (block_offset (layout_of g) base id) content))

-- Whether an area can be upgraded: it has the resource's leader of an area without pairs, for so many hosts, and each host's block.
abbrev pub can_upgrade : ResourceArg → Sizes → List ℕ → Bool
can_upgrade r g content =
    is_some (right_leader r g.hosts (old_leader_in (sector_at g.sector (leader_offset r.offset) content)))
    && list_all (has_block g r.offset content) (range_with_len 1 g.hosts)

-- Where the content is told, an upgrade is done only where the area can be upgraded, and answers `NotTheLeader` and `TornBlock` only where
-- it can't. No other action answers `TornBlock`.
pub record UpgradeIsTold : Type 0 where
  pub right : (r : ResourceArg) (g : Sizes) (content : List ℕ) (after : Option (List ℕ)) (faults later : ℕ) (taken now : Option (List ℕ)) (sink_faults sink_later : ℕ)
      → Directs (Upgrade r g) (Some content) after faults later taken now sink_faults sink_later Done → can_upgrade r g content ≡ true
  pub no_leader : (r : ResourceArg) (g : Sizes) (content : List ℕ) (after : Option (List ℕ)) (faults later : ℕ) (taken now : Option (List ℕ)) (sink_faults sink_later : ℕ)
      → Directs (Upgrade r g) (Some content) after faults later taken now sink_faults sink_later NotTheLeader → can_upgrade r g content ≡ false
  pub torn_block : (r : ResourceArg) (g : Sizes) (content : List ℕ) (after : Option (List ℕ)) (faults later : ℕ) (taken now : Option (List ℕ)) (sink_faults sink_later : ℕ)
      → Directs (Upgrade r g) (Some content) after faults later taken now sink_faults sink_later TornBlock → can_upgrade r g content ≡ false
  pub other : (a : Action) (content after : Option (List ℕ)) (faults later : ℕ) (taken now : Option (List ℕ)) (sink_faults sink_later : ℕ)
      → Directs a content after faults later taken now sink_faults sink_later TornBlock → (r : ResourceArg) × (g : Sizes) × (a ≡ Upgrade r g)
