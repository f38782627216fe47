-- Disks as they are kept, and what stands on them.
use Rattle.sl_area.specs.AreaSizes.{layout_of}
use Rattle.sl_run.specs.Headers.{IsHeader}
use Rattle.sl_run.specs.Worlds.{initial_bytes, mebibyte}
use Rattle.sl_run.specs.declared.header.Disk.{Disk}
use Rattle.sl_run.specs.declared.header.Header.{Header}
use Rattle.std.specs.List.{enumerate_from, list_all, range_with_len}
use Rattle.std.specs.Prelude.{Bool, List, None, Option, Some, length, map, option_and_then, replicate, slice_get, slice_set, true, ℕ, ◌*◌, ◌/◌, ◌==◌, ◌≡◌}

-- A disk: its path, and for each sector the bytes that are kept, if somebody touched it.
pub record TableState : Type 0 where
  pub path : List ℕ
  pub slots : List (Option (List ℕ))

-- The disks of a header's world: what stands at each sector of each.
pub record DisksState : Type 0 where
  pub header : Header
  pub sectors : List (List (List ℕ))

-- ---- what stands at a sector

-- At moment 0.
unfoldable pub first_at : Header → List ℕ → ℕ → List ℕ
first_at h path n = initial_bytes (layout_of h.geometry) h path (n * h.geometry.sector)

-- Now, by what is kept of it.
abbrev pub stands_at : Header → List ℕ → ℕ × Option (List ℕ) → List ℕ
stands_at h path (n, None) = first_at h path n
stands_at h path (n, Some bytes) = bytes

-- At each sector of a disk.
abbrev pub stands_on : Header → TableState → List (List ℕ)
stands_on h t = map (stands_at h t.path) (enumerate_from 0 t.slots)

-- ---- tables

-- What is kept at sector n.
abbrev pub kept_at : TableState → ℕ → Option (List ℕ)
kept_at t n = option_and_then (λ o. o) (slice_get t.slots n)

-- .. of disk d.
abbrev pub kept_on : List TableState → ℕ → ℕ → Option (List ℕ)
kept_on ts d n = option_and_then (λ t. kept_at t n) (slice_get ts d)

-- The table with these bytes at sector n.
abbrev pub table_with : ℕ → List ℕ → TableState → TableState
table_with n bytes t = record t { slots = slice_set t.slots n (Some bytes) }

-- .. of disk d.
abbrev pub tables_with : ℕ → ℕ → List ℕ → List TableState → List TableState
tables_with d n bytes ts = elim (slice_get ts d) [ None ↦ ts | Some t ↦ slice_set ts d (table_with n bytes t) ]

-- The path, if there is a slot.
abbrev pub path_if : List ℕ → Option (Option (List ℕ)) → Option (List ℕ)
path_if path None = None
path_if path (Some o) = Some path

-- The path of disk d, if it has a sector n.
abbrev pub path_at : List TableState → ℕ → ℕ → Option (List ℕ)
path_at ts d n = option_and_then (λ t. path_if t.path (slice_get t.slots n)) (slice_get ts d)

-- Whether what is kept is a sector's bytes.
abbrev pub is_sized : ℕ → Option (List ℕ) → Bool
is_sized size None = true
is_sized size (Some bytes) = length bytes == size

abbrev pub is_table : ℕ → TableState → Bool
is_table size t = list_all (is_sized size) t.slots

-- What is kept of the disks goes with their header.
pub record IsDisks (h : Header) (tables : List TableState) (zeros : List ℕ) : Type 0 where
  pub header : IsHeader h
  pub sized : list_all (is_table h.geometry.sector) tables ≡ true
  pub zeros_are : zeros ≡ replicate h.geometry.sector 0

-- ---- at moment 0

-- How many sectors a disk has.
abbrev pub sectors_on : Header → Disk → ℕ
sectors_on h d = d.mebibytes * mebibyte / h.geometry.sector

abbrev pub first_table : Header → Disk → TableState
first_table h d = record { path = d.path; slots = replicate (sectors_on h d) None }

-- What stands on the disks.
abbrev pub first_disks : Header → DisksState
first_disks h = record { header = h; sectors = map (λ d. map (first_at h d.path) (range_with_len 0 (sectors_on h d))) h.disks }
