-- Pairs of sectors: which block of a pair stands, and which read is made twice.
use Rattle.sl_area.specs.AreaSizes.{Layout}
use Rattle.sl_sector.specs.SectorLayouts.{pair_in}
use Rattle.sl_sector.specs.declared.sector.Block.{Block}
use Rattle.sl_sector.specs.declared.sector.PairBlock.{PairBlock}
use Rattle.std.specs.List.{list_any, range_with_len}
use Rattle.std.specs.Prelude.{Bool, List, None, Option, Some, false, if◌then◌else◌, is_none, map, nat_lt, option_map, slice_get, true, unwrap_or, [], ℕ, ◌&&◌, ◌*◌, ◌+◌, ◌-◌}
use Rattle.sl_area.specs.AreaLayout.{read_at, blocks_in}

-- A read of all blocks: what a host's pair has in its first sector, and in its second.
abbrev pub pair_front : Layout → List ℕ → ℕ → Option PairBlock
pair_front g bs id = pair_in id true (read_at g bs (2 * (id - 1)))

abbrev pub pair_back : Layout → List ℕ → ℕ → Option PairBlock
pair_back g bs id = pair_in id false (read_at g bs (2 * (id - 1) + 1))

-- The one of greater turn; of two with one turn the second.
abbrev pub later_pair : Option PairBlock → Option PairBlock → Option PairBlock
later_pair None q = q
later_pair (Some p) None = Some p
later_pair (Some p) (Some q) = if nat_lt q.turn p.turn then Some p else Some q

-- The block of a host's pair in one read.
abbrev pub pair_read : Layout → List ℕ → ℕ → Option PairBlock
pair_read g bs id = later_pair (pair_front g bs id) (pair_back g bs id)

-- Whether the read is made once more: some host's second sector is torn in it. Sectors are sampled in rising order, so the first sector
-- may be an old one beside a second that was being written.
abbrev pub needs_again : Layout → List ℕ → Bool
needs_again g bs = g.paired && list_any (λ id. is_none (pair_back g bs id)) (range_with_len 1 g.hosts)

-- What is kept of an answer after which the read is made once more: of each host whose second sector was whole the block of its pair.
abbrev pub pair_kept : Layout → List ℕ → ℕ → Option PairBlock
pair_kept g bs id = elim (pair_back g bs id) [ None ↦ None | Some p ↦ pair_read g bs id ]

abbrev pub pairs_kept : Layout → List ℕ → List (Option PairBlock)
pairs_kept g bs = map (pair_kept g bs) (range_with_len 1 g.hosts)

-- What was read of all blocks: what was kept of a first answer, if there was one, and the last answer.
pub record BlocksRead : Type 0 where
  pub kept : List (Option PairBlock)
  pub last : List ℕ

-- A read that needed no second one.
abbrev pub read_once : List ℕ → BlocksRead
read_once bs = record { kept = []; last = bs }

-- The block of a host's pair: the one of greater turn of what was kept and of the last answer.
abbrev pub pair_merged : Layout → BlocksRead → ℕ → Option PairBlock
pair_merged g r id = later_pair (unwrap_or (slice_get r.kept (id - 1)) None) (pair_read g r.last id)

-- The blocks of the pairs of hosts 1 to N.
abbrev pub pairs_of : Layout → BlocksRead → List (Option PairBlock)
pairs_of g r = map (pair_merged g r) (range_with_len 1 g.hosts)

-- The blocks of hosts 1 to N, each if there is one.
abbrev pub blocks_of : Layout → BlocksRead → List (Option Block)
blocks_of g r =
    elim g.paired [
      | false ↦ blocks_in g r.last
      | true ↦ map (λ p. option_map (λ q. q.block) p) (pairs_of g r)
    ]
