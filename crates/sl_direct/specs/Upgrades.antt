-- An area without pairs that becomes one with pairs: what is read of it, what is written, and what is told.
use Rattle.sha2.specs.Sha256.{sha256}
use Rattle.sl_area.specs.AreaSizes.{Layout, Sizes, layout_of}
use Rattle.sl_area.specs.AreaLayout.{block_offset, leader_offset, pair_offset}
use Rattle.sl_area.specs.Roles.{IsHost}
use Rattle.sl_area.specs.Sectors.{IsReadAt}
use Rattle.sl_direct.specs.FreshAreas.{Write, write_of}
use Rattle.sl_direct.specs.Lines.{has_names, named_words}
use Rattle.sl_direct.specs.Writes.{BrokeOff, Wrote}
use Rattle.sl_direct.specs.declared.action.Directed.TheVariants.{AreaFault, Done, NoMemory, NotTheLeader, TornBlock, WriteFault}
use Rattle.sl_direct.specs.declared.action.Directed.{Directed}
use Rattle.sl_sector.specs.RecordTexts.{bad_words}
use Rattle.sl_sector.specs.Records.{IsBlock}
use Rattle.sl_sector.specs.SectorLayouts.{block_in, decoded}
use Rattle.sl_sector.specs.declared.sector.Bad.TheVariants.{BadKind}
use Rattle.sl_sector.specs.declared.sector.Bad.{Bad}
use Rattle.sl_sector.specs.declared.sector.Block.{Block}
use Rattle.sl_sector.specs.declared.sector.Leader.{Leader}
use Rattle.sl_sector.specs.declared.sector.Rec.TheVariants.{LeaderIs, PairIs, PairLeaderIs}
use Rattle.sl_sector.specs.declared.sector.Rec.{Rec}
use Rattle.sl_text.specs.Forms.{as_bytes, coloned, spaced}
use Rattle.sl_trace.specs.declared.command.ResourceArg.{ResourceArg}
use Rattle.sl_words.specs.Words.{choose}
use Rattle.std.specs.Io.KnownBytes.{Keeps}
use Rattle.std.specs.Prelude.{All, Bool, Err, List, None, Ok, Option, Result, Some, codes, decimal, if◌then◌else◌, length, replicate, suc, true, false, [], ⊤, ℕ, ◌&&◌, ◌++◌, ◌==◌, ◌∷◌, ◌≡◌, ◌⊎◌}

-- What is kept of an area without pairs: its leader, and the blocks of hosts 1 to N.
pub record OldArea : Type 0 where
  pub leader : Leader
  pub blocks : List Block

-- ---- what is read

-- The leader that was read, of an area without pairs, or why there is none; another record is of a bad kind.
abbrev pub old_leader_found : Result Rec Bad → Result Leader Bad
old_leader_found (Ok (LeaderIs l)) = Ok l
old_leader_found (Ok r) = Err BadKind
old_leader_found (Err bad) = Err bad

-- The leader that a sector spells.
abbrev pub old_leader_in : List ℕ → Result Leader Bad
old_leader_in sector = old_leader_found (decoded sha256 sector)

-- It, if it is the resource's, for so many hosts.
abbrev pub right_leader : ResourceArg → ℕ → Result Leader Bad → Option Leader
right_leader r hosts (Ok l) = choose (has_names r l && l.num_hosts == hosts) l
right_leader r hosts (Err bad) = None

-- The block that a host's sector spells.
abbrev pub old_block_in : ℕ → List ℕ → Option Block
old_block_in id sector = block_in id (decoded sha256 sector)

-- A sector that was read at an offset.
pub record IsSectorAt (content : Option (List ℕ)) (size at : ℕ) (sector : List ℕ) : Type 0 where
  pub long : length sector ≡ size
  pub read : IsReadAt content at sector

-- The leader was read.
pub record ReadsLeader (r : ResourceArg) (g : Sizes) (content : Option (List ℕ)) (l : Leader) : Type 0 where
  pub sector : List ℕ
  pub at : IsSectorAt content g.sector (leader_offset r.offset) sector
  pub is : right_leader r g.hosts (old_leader_in sector) ≡ Some l

-- A host's block was read, which may be torn.
pub record ReadsBlock (g : Sizes) (base : ℕ) (content : Option (List ℕ)) (id : ℕ) (found : Option Block) : Type 0 where
  pub sector : List ℕ
  pub at : IsSectorAt content g.sector (block_offset (layout_of g) base id) sector
  pub is : old_block_in id sector ≡ found

-- The blocks of hosts from this one on were read.
abbrev pub ReadsBlocks : Sizes → ℕ → Option (List ℕ) → ℕ → List Block → Type 0
ReadsBlocks g base content id [] = ⊤
ReadsBlocks g base content id (b ∷ bs) = ReadsBlock g base content id (Some b) × ReadsBlocks g base content (suc id) bs

-- The blocks of the first hosts were read, and each is its host's.
abbrev pub AreOld : Sizes → ℕ → Option (List ℕ) → List Block → Type 0
AreOld g base content bs = ReadsBlocks g base content 1 bs × All (λ b. IsBlock b × IsHost g b.host) bs

-- All of the area was read.
pub record IsOldArea (r : ResourceArg) (g : Sizes) (content : Option (List ℕ)) (old : OldArea) : Type 0 where
  pub leader : ReadsLeader r g content old.leader
  pub count : length old.blocks ≡ g.hosts
  pub blocks : ReadsBlocks g r.offset content 1 old.blocks

-- ---- what is written

-- Zeros over the leader: from here on no host of either kind finds one.
abbrev pub zeros_write : Layout → ℕ → Write
zeros_write g base = record { offset = leader_offset base; sector = replicate g.sector 0 }

-- A block of this turn in its host's pair: 1 in the first sector, 2 in the second.
abbrev pub turn_write : Layout → Leader → ℕ → Block → Bool → Write
turn_write g l base b first =
    write_of g.sector (pair_offset g base b.host first)
    (PairIs (record { block = b; turn = if first then 1 else 2; lockspace = l.lockspace; resource = l.resource }))

-- Both.
abbrev pub pair_writes : Layout → Leader → ℕ → Block → List Write
pair_writes g l base b = turn_write g l base b true ∷ turn_write g l base b false ∷ []

-- The pairs of these hosts, from the last down to the first.
abbrev pub pairs_down : Layout → Leader → ℕ → List Block → List Write
pairs_down g l base [] = []
pairs_down g l base (b ∷ bs) = pairs_down g l base bs ++ pair_writes g l base b

-- The leader, as that of an area with pairs.
abbrev pub last_write : Layout → ℕ → Leader → Write
last_write g base l = write_of g.sector (leader_offset base) (PairLeaderIs l)

-- Zeros over the leader, the pairs from the last host down to the first, and the leader last.
abbrev pub upgrade_writes : Layout → ℕ → OldArea → List Write
upgrade_writes g base old =
    zeros_write g base
    ∷ (pairs_down g old.leader base old.blocks ++ last_write g base old.leader ∷ [])

-- ---- what is told

-- `upgrade LOCKSPACE:RESOURCE HOSTS`
abbrev pub upgrade_line : ResourceArg → ℕ → List ℕ
upgrade_line r hosts = spaced (codes "upgrade" ∷ coloned (r.lockspace ∷ r.name ∷ []) ∷ decimal hosts ∷ [])

-- Where another leader was found, or none: the area that it is of, or why there is none.
abbrev pub other_words : Result Leader Bad → List (List ℕ)
other_words (Ok l) = named_words false l
other_words (Err bad) = bad_words bad

abbrev pub other_line : List ℕ → List ℕ
other_line sector = spaced (other_words (old_leader_in sector))

-- `TornBlock HOST`
abbrev pub torn_line : ℕ → List ℕ
torn_line id = spaced (codes "TornBlock" ∷ decimal id ∷ [])

-- ---- how it may end

-- The sector of the leader spells none of the resource's.
pub record FindsOther (r : ResourceArg) (g : Sizes) (content : Option (List ℕ)) (lines : List (List ℕ)) : Type 0 where
  pub sector : List ℕ
  pub at : IsSectorAt content g.sector (leader_offset r.offset) sector
  pub none : right_leader r g.hosts (old_leader_in sector) ≡ None
  pub told : lines ≡ other_line sector ∷ []

-- The leader is the resource's, and a host's block is torn, the first one that is.
pub record FindsTorn (r : ResourceArg) (g : Sizes) (content : Option (List ℕ)) (lines : List (List ℕ)) : Type 0 where
  pub leader : Leader
  pub reads : ReadsLeader r g content leader
  pub before : List Block
  pub blocks : ReadsBlocks g r.offset content 1 before
  pub host : IsHost g (suc (length before))
  pub torn : ReadsBlock g r.offset content (suc (length before)) None
  pub told : lines ≡ torn_line (suc (length before)) ∷ []

-- Why no more blocks were read: the next one is torn; or a read failed, or there was no memory, and nothing is told.
abbrev pub StopsBehind : Sizes → ℕ → Option (List ℕ) → ℕ → List ℕ → Directed → Type 0
StopsBehind g base content id out TornBlock = ReadsBlock g base content id None × (out ≡ as_bytes (torn_line id ∷ []))
StopsBehind g base content id out AreaFault = out ≡ []
StopsBehind g base content id out NoMemory = out ≡ []
StopsBehind g base content id out d = ⊥

-- How the writing of what was read may end.
abbrev pub PairsUp : ResourceArg → Sizes → Leader → List Block → Option (List ℕ) → Option (List ℕ) → List ℕ → Directed → Type 0
PairsUp r g l bs content after out Done =
    Wrote (upgrade_writes (layout_of g) r.offset (record { leader = l; blocks = bs })) content after × (out ≡ as_bytes (upgrade_line r g.hosts ∷ []))
PairsUp r g l bs content after out AreaFault =
    BrokeOff (upgrade_writes (layout_of g) r.offset (record { leader = l; blocks = bs })) content after × (out ≡ [])
PairsUp r g l bs content after out NoMemory = Keeps content after × (out ≡ [])
PairsUp r g l bs content after out d = ⊥

-- What is told where the leader's sector spells none of the resource's; or there was no memory for it.
abbrev pub TellsOther : ResourceArg → ℕ → List ℕ → List ℕ → Directed → Type 0
TellsOther r hosts sector out NotTheLeader = (right_leader r hosts (old_leader_in sector) ≡ None) × (out ≡ as_bytes (other_line sector ∷ []))
TellsOther r hosts sector out NoMemory = out ≡ []
TellsOther r hosts sector out d = ⊥

-- All of the area was read, and then a write failed.
pub record BreaksOff (r : ResourceArg) (g : Sizes) (content after : Option (List ℕ)) : Type 0 where
  pub old : OldArea
  pub is : IsOldArea r g content old
  pub broke : BrokeOff (upgrade_writes (layout_of g) r.offset old) content after

-- All of it was written.
pub record IsUpgraded (r : ResourceArg) (g : Sizes) (content after : Option (List ℕ)) : Type 0 where
  pub old : OldArea
  pub is : IsOldArea r g content old
  pub wrote : Wrote (upgrade_writes (layout_of g) r.offset old) content after

-- Nothing is written before all was read.
abbrev pub Upgrades : ResourceArg → Sizes → Option (List ℕ) → Option (List ℕ) → List (List ℕ) → Directed → Type 0
Upgrades r g content after lines Done = IsUpgraded r g content after × (lines ≡ upgrade_line r g.hosts ∷ [])
Upgrades r g content after lines AreaFault = (Keeps content after ⊎ BreaksOff r g content after) × (lines ≡ [])
Upgrades r g content after lines NoMemory = Keeps content after × (lines ≡ [])
Upgrades r g content after lines NotTheLeader = Keeps content after × FindsOther r g content lines
Upgrades r g content after lines TornBlock = Keeps content after × FindsTorn r g content lines
Upgrades r g content after lines WriteFault = ⊥
