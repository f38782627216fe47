-- What is written to the area of a lockspace or of a resource that is initialised, in the order in which it is written.
use Rattle.sha2.specs.Sha256.{sha256}
use Rattle.sl_area.specs.AreaSizes.{Layout}
use Rattle.sl_area.specs.AreaLayout.{block_offset, block_sectors, delta_offset, leader_offset, request_offset, value_offset}
use Rattle.sl_area.specs.AreaRecords.{fresh_block_at, fresh_delta, fresh_leader, leader_record, no_request, no_value}
use Rattle.sl_area.specs.Sectors.{SectorPlace}
use Rattle.sl_label.specs.Labels.{label_record}
use Rattle.sl_label.specs.declared.label.Label.{Label}
use Rattle.sl_sector.specs.SectorLayouts.{spelling}
use Rattle.sl_sector.specs.declared.sector.Rec.TheVariants.{DeltaIs, RequestIs, ValueIs}
use Rattle.sl_sector.specs.declared.sector.Rec.{Rec}
use Rattle.std.specs.List.{range_with_len}
use Rattle.std.specs.Prelude.{List, length, map, [], ℕ, ◌++◌, ◌+◌, ◌∷◌}

-- A sector that is written: where it begins, and its bytes.
pub record Write : Type 0 where
  pub offset : ℕ
  pub sector : List ℕ

-- The bytes that it replaces.
abbrev pub place_of : Write → SectorPlace
place_of w = record { offset = w.offset; size = length w.sector }

-- The write of a record, in a sector of so many bytes that ends with the SHA-256 of its other bytes.
abbrev pub write_of : ℕ → ℕ → Rec → Write
write_of size offset r = record { offset = offset; sector = spelling sha256 size r }

-- An id's record that was never claimed, in its place.
abbrev pub delta_write : Layout → List ℕ → ℕ → ℕ → Write
delta_write g lockspace base id = write_of g.sector (delta_offset g base id) (DeltaIs (fresh_delta lockspace id))

-- A lockspace: the record of each id.
abbrev pub lockspace_writes : Layout → List ℕ → ℕ → List Write
lockspace_writes g lockspace base = map (delta_write g lockspace base) (range_with_len 1 g.hosts)

-- The label of a lockspace, in its place.
abbrev pub label_write : Layout → ℕ → Label → Write
label_write g base l = write_of g.sector (value_offset g base) (label_record l)

-- A lockspace with its label, which is written last.
abbrev pub labelled_writes : Layout → Label → ℕ → List Write
labelled_writes g l base = lockspace_writes g l.lockspace base ++ label_write g base l ∷ []

-- The cleared request, in its place.
abbrev pub request_write : Layout → ℕ → Write
request_write g base = write_of g.sector (request_offset g base) (RequestIs no_request)

-- A block that has no ballot, in the k-th of the sectors that the blocks have: that of host k, or with pairs the first or the second of
-- a host.
abbrev pub block_write : Layout → List ℕ → List ℕ → ℕ → ℕ → Write
block_write g lockspace resource base k = write_of g.sector (block_offset g base k) (fresh_block_at g lockspace resource (k + 1))

-- The value without a byte, in its place.
abbrev pub value_write : Layout → ℕ → Write
value_write g base = write_of g.sector (value_offset g base) (ValueIs no_value)

-- The leader that was never held, in its place.
abbrev pub leader_write : Layout → List ℕ → List ℕ → ℕ → Write
leader_write g lockspace resource base = write_of g.sector (leader_offset base) (leader_record g (fresh_leader g lockspace resource))

-- The blocks of all hosts.
abbrev pub block_writes : Layout → List ℕ → List ℕ → ℕ → List Write
block_writes g lockspace resource base = map (block_write g lockspace resource base) (range_with_len 1 (block_sectors g))

-- A resource: the request, each host's block, the value, and last the leader. Where no leader stood before, none stands after an
-- initialising that broke off, and so it is seen.
abbrev pub resource_writes : Layout → List ℕ → List ℕ → ℕ → List Write
resource_writes g lockspace resource base =
    request_write g base ∷ (block_writes g lockspace resource base ++ value_write g base ∷ leader_write g lockspace resource base ∷ [])
