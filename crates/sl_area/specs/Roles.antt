-- The sectors of an area by what stands in them, and how they lie.
use Rattle.sl_area.specs.AreaSizes.{IsGeometry, Sizes, layout_of}
use Rattle.sl_area.specs.AreaLayout.{block_offset, delta_offset, in_area, is_base, leader_offset, pair_offset, request_offset, value_offset}
use Rattle.sl_area.specs.Sectors.{Apart, SectorPlace}
use Rattle.std.specs.Prelude.{Bool, IsTrue, false, true, ℕ, ◌+◌, ◌≡◌, ◌≢◌, ◌≤◌}

-- The sector of the run that begins at the offset.
abbrev pub place_at : Sizes → ℕ → SectorPlace
place_at s offset = record { offset = offset; size = s.sector }

-- An id of a host of the run.
abbrev pub IsHost : Sizes → ℕ → Type 0
IsHost s id = (1 ≤ id) × (id ≤ s.hosts)

-- An area may begin there.
abbrev pub IsBase : Sizes → ℕ → Type 0
IsBase s base = IsTrue (is_base (layout_of s) base)

-- What stands in a resource's area: for each host a block, or the first and the second sector of its pair, and three sectors besides.
pub data Role : Type 0 where
  leader : Role
  request : Role
  block : ℕ → Role
  pair : ℕ → Bool → Role
  value : Role

-- The host of a block is one of the run, which has pairs or has none.
abbrev pub IsRole : Sizes → Role → Type 0
IsRole s leader = Unit {0}
IsRole s request = Unit {0}
IsRole s (block id) = IsHost s id × (s.paired ≡ false)
IsRole s (pair id first) = IsHost s id × (s.paired ≡ true)
IsRole s value = Unit {0}

-- Where each stands.
abbrev pub role_offset : Sizes → ℕ → Role → ℕ
role_offset s base leader = leader_offset base
role_offset s base request = request_offset (layout_of s) base
role_offset s base (block id) = block_offset (layout_of s) base id
role_offset s base (pair id first) = pair_offset (layout_of s) base id first
role_offset s base value = value_offset (layout_of s) base

-- The sector begins and ends in the area.
abbrev pub LiesIn : Sizes → ℕ → SectorPlace → Type 0
LiesIn s base p = IsTrue (in_area (layout_of s) base p.offset) × (p.offset + p.size ≤ base + s.area)

-- Each sector of a lockspace's area, and each of a resource's area, lies in it.
abbrev pub PlacesLieInArea : Type 0
PlacesLieInArea = (s : Sizes) (base : ℕ) → IsGeometry s
    → ((id : ℕ) → IsHost s id → LiesIn s base (place_at s (delta_offset (layout_of s) base id)))
    × ((role : Role) → IsRole s role → LiesIn s base (place_at s (role_offset s base role)))

-- Two ids have no byte of the lockspace's area in common.
abbrev pub DeltasAreApart : Type 0
DeltasAreApart = (s : Sizes) (base id other : ℕ) → IsGeometry s → IsHost s id → IsHost s other → id ≢ other
    → Apart (place_at s (delta_offset (layout_of s) base id)) (place_at s (delta_offset (layout_of s) base other))

-- Two sectors of a resource's area have no byte in common.
abbrev pub RolesAreApart : Type 0
RolesAreApart = (s : Sizes) (base : ℕ) (role other : Role) → IsGeometry s → IsRole s role → IsRole s other → role ≢ other
    → Apart (place_at s (role_offset s base role)) (place_at s (role_offset s base other))

-- Sectors of two areas of one disk have no byte in common.
abbrev pub AreasAreApart : Type 0
AreasAreApart = (s : Sizes) (base other : ℕ) (p q : SectorPlace) → IsGeometry s → IsBase s base → IsBase s other → base ≢ other
    → LiesIn s base p → LiesIn s other q → Apart p q
