-- What a host's read of blocks gives, and the places that it has for it.
use Rattle.sl_area.specs.AreaSizes.{Sizes, layout_of}
use Rattle.sl_area.specs.Pairs.{BlocksRead, blocks_of, later_pair, pair_back, pair_kept, pair_read, pairs_of}
use Rattle.sl_area.specs.TornLeader.{leader_made}
use Rattle.sl_area.specs.AreaLayout.{area_sectors, block_sectors, blocks_in, leader_of, read_at}
use Rattle.sl_host_state.specs.HeardInputs.{is_area_step}
use Rattle.sl_sector.specs.SectorLayouts.{block_in}
use Rattle.sl_sector.specs.declared.sector.Block.{Block}
use Rattle.sl_sector.specs.declared.sector.Leader.{Leader}
use Rattle.sl_sector.specs.declared.sector.PairBlock.{PairBlock}
use Rattle.sl_trace.specs.LeaseDecisions.{asked_again}
use Rattle.sl_trace.specs.declared.effects.LeaseStep.{LeaseStep}
use Rattle.sl_words.specs.Words.{present}
use Rattle.std.specs.List.{list_any, range_with_len}
use Rattle.std.specs.Prelude.{Bool, IfSome, IsTrue, List, None, Option, Some, cond, drop, false, is_none, is_some, length, map, max, option_map, slice_index_or, true, ℕ, ◌*◌, ◌-◌, ◌≡◌}

-- How many sectors a read at this step gives: the blocks', and at some steps leader and request before them.
abbrev pub sectors_read : Sizes → LeaseStep → ℕ
sectors_read z step = cond (is_area_step step) (area_sectors (layout_of z)) (block_sectors (layout_of z))

-- Whether the read that gave these bytes is to be made once more: a first one, in whose answer some host's second sector is torn.
abbrev pub is_asked_again : Sizes → LeaseStep → List ℕ → Bool
is_asked_again z step bytes = is_some (asked_again (layout_of z) bytes step)

-- ---- host by host

-- What stands behind so many sectors.
abbrev pub behind : Sizes → ℕ → List ℕ → List ℕ
behind z skipped bytes = drop (skipped * z.sector) bytes

-- The block of a host in a read of all blocks.
abbrev pub host_block : Sizes → List ℕ → ℕ → Option Block
host_block z bytes host = block_in host (read_at (layout_of z) bytes (host - 1))

-- The blocks of hosts 1 to n.
abbrev pub blocks_to : Sizes → List ℕ → ℕ → List (Option Block)
blocks_to z bytes n = map (host_block z bytes) (range_with_len 1 n)

-- The blocks of the pairs of hosts 1 to n, what is kept of them, and whether one's second sector is torn.
abbrev pub pairs_to : Sizes → List ℕ → ℕ → List (Option PairBlock)
pairs_to z bytes n = map (pair_read (layout_of z) bytes) (range_with_len 1 n)

abbrev pub kept_to : Sizes → List ℕ → ℕ → List (Option PairBlock)
kept_to z bytes n = map (pair_kept (layout_of z) bytes) (range_with_len 1 n)

abbrev pub is_torn_to : Sizes → List ℕ → ℕ → Bool
is_torn_to z bytes n = list_any (λ id. is_none (pair_back (layout_of z) bytes id)) (range_with_len 1 n)

-- Pairs of a first answer and of a last one, host by host.
abbrev pub merged_with : List (Option PairBlock) → List (Option PairBlock) → List (Option PairBlock)
merged_with first last = map (λ k. later_pair (slice_index_or first k None) (slice_index_or last k None)) (range_with_len 0 (length last))

-- Their blocks.
abbrev pub blocks_of_pairs : List (Option PairBlock) → List (Option Block)
blocks_of_pairs pairs = map (λ p. option_map (λ q. q.block) p) pairs

-- The greater of a number and the lver of one, if it was read.
abbrev pub top_of : ℕ → Option PairBlock → ℕ
top_of top None = top
top_of top (Some p) = max top p.block.lver

-- The leader of a read of the area: the one that is spelled; with pairs a torn one is made from these.
abbrev pub leader_with : Sizes → List ℕ → List (Option PairBlock) → Option Leader
leader_with z bytes pairs =
    elim z.paired [
      | false ↦ leader_of (layout_of z) bytes
      | true ↦ elim (leader_of (layout_of z) bytes) [ Some l ↦ Some l | None ↦ leader_made (layout_of z) (present pairs) ]
    ]

-- ---- places for what reads give

-- The places that a host has for what its reads give: a block of each host, with pairs also the block of its pair, and a list that may
-- be kept of a first read, if one stands by.
pub record ReadRoom : Type 0 where
  pub blocks : List (Option Block)
  pub pairs : List (Option PairBlock)
  pub kept : Option (List (Option PairBlock))

-- So many places are needed for pairs.
abbrev pub pair_places : Sizes → ℕ
pair_places z = cond z.paired z.hosts 0

-- There is a place for each host.
pub record HasPlaces (z : Sizes) (r : ReadRoom) : Type 0 where
  pub blocks : length r.blocks ≡ z.hosts
  pub pairs : length r.pairs ≡ pair_places z
  pub kept : IfSome r.kept (λ ps. length ps ≡ z.hosts)

-- And with pairs a list stands by that may be kept.
pub record CanRead (z : Sizes) (r : ReadRoom) : Type 0 where
  pub places : HasPlaces z r
  pub standing : z.paired ≡ true → IsTrue (is_some r.kept)

-- What a read of all blocks gave in these bytes is in the places: the blocks, or those of pairs.
pub record HasRead (z : Sizes) (last : List ℕ) (r : ReadRoom) : Type 0 where
  pub places : HasPlaces z r
  pub blocks : z.paired ≡ false → r.blocks ≡ blocks_in (layout_of z) last
  pub pairs : z.paired ≡ true → r.pairs ≡ pairs_to z last z.hosts

-- The blocks that were read of all hosts are in their places, with what was kept of a first answer.
pub record HasGiven (z : Sizes) (q : BlocksRead) (r : ReadRoom) : Type 0 where
  pub places : HasPlaces z r
  pub blocks : r.blocks ≡ blocks_of (layout_of z) q
  pub pairs : z.paired ≡ true → r.pairs ≡ pairs_of (layout_of z) q
