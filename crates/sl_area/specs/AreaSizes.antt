-- How sectors are laid out in a run: sizes, and the digest that ends each sector.
use Rattle.sha2.specs.Sha256.{sha256}
use Rattle.sl_sector.specs.SectorLayouts.{decoded, spelling}
use Rattle.sl_sector.specs.declared.sector.Bad.{Bad}
use Rattle.sl_sector.specs.declared.sector.Rec.{Rec}
use Rattle.sl_words.specs.Words.{greatest}
use Rattle.std.specs.Int.{is_in_range}
use Rattle.std.specs.List.{list_any}
use Rattle.std.specs.Prelude.{Bool, IsTrue, List, Option, Result, false, find, if◌then◌else◌, map, option_map, true, [], ℕ, ◌&&◌, ◌/◌, ◌==◌, ◌∷◌}

-- Bytes of a sector, bytes of an area, the number of hosts of the run, and whether each host's block has a pair of sectors.
pub record Sizes : Type 0 where
  pub sector : ℕ
  pub area : ℕ
  pub hosts : ℕ
  pub paired : Bool

-- The sizes, in the order in which they are given, of areas with one sector for a block.
abbrev pub sizes : ℕ → ℕ → ℕ → Sizes
sizes sector area hosts = record { sector = sector; area = area; hosts = hosts; paired = false }

-- The same, of areas with pairs.
abbrev pub paired_sizes : ℕ → ℕ → ℕ → Sizes
paired_sizes sector area hosts = record { sector = sector; area = area; hosts = hosts; paired = true }

-- All that decides which bytes spell which record, and where a record stands. The digest is given, so that examples may take a
-- cheap one; the program's is SHA-256.
pub record Layout : Type 0 where
  pub sector : ℕ
  pub area : ℕ
  pub hosts : ℕ
  -- each host's block has a pair of sectors, which are written in turn
  pub paired : Bool
  pub digest : List ℕ → List ℕ

-- The layout of these sizes with this digest.
abbrev pub layout_with : (List ℕ → List ℕ) → Sizes → Layout
layout_with digest s = record { sector = s.sector; area = s.area; hosts = s.hosts; paired = s.paired; digest = digest }

-- The digest of the program.
abbrev pub program_digest : List ℕ → List ℕ
program_digest bytes = sha256 bytes

-- The layout of the program.
abbrev pub layout_of : Sizes → Layout
layout_of s = layout_with program_digest s

-- The areas that there may be: bytes of a sector, bytes of an area, most hosts.
abbrev pub geometries : List (ℕ × ℕ × ℕ)
geometries =
    (512, 1048576, 2000) ∷ (4096, 1048576, 250) ∷ (4096, 2097152, 500) ∷ (4096, 4194304, 1000) ∷ (4096, 8388608, 2000) ∷ []

-- The most hosts for sectors and areas of these bytes, if there are such areas.
abbrev pub most_ids : ℕ → ℕ → Option ℕ
most_ids sector area = option_map (λ row. row.2) (find (λ row. row.0 == sector && row.1 == area) geometries)

-- The most hosts of any areas.
abbrev pub most_ids_of_all : ℕ
most_ids_of_all = greatest (map (λ row. row.2) geometries)

-- For how many hosts there is room, where it is for so many that have one sector: with pairs for half of them.
abbrev pub roomy : Bool → ℕ → ℕ
roomy paired most = if paired then most / 2 else most

-- Whether a run may have these sizes.
abbrev pub is_geometry : Sizes → Bool
is_geometry s = list_any (λ row. row.0 == s.sector && row.1 == s.area && is_in_range 1 (roomy s.paired row.2) s.hosts) geometries

-- A run may have these sizes.
abbrev pub IsGeometry : Sizes → Type 0
IsGeometry s = IsTrue (is_geometry s)

-- The sector that spells the record.
abbrev pub sector_with : Layout → Rec → List ℕ
sector_with g r = spelling g.digest g.sector r

-- The record that a sector's bytes spell, or the first test that fails.
abbrev pub record_in : Layout → List ℕ → Result Rec Bad
record_in g bs = decoded g.digest bs
