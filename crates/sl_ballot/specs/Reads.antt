-- Going over the blocks of a read by their places.
use Rattle.sl_trace.specs.Ballots.{known_block}
use Rattle.sl_sector.specs.declared.sector.Block.{Block}
use Rattle.std.specs.List.{enumerate_from}
use Rattle.std.specs.Prelude.{Bool, List, Option, filter_map, is_none, ℕ, ◌+◌}

-- The block of the host that so many are before.
abbrev pub known_at : Block → ℕ × Option Block → Option Block
known_at own p = known_block own p.1 (p.0 + 1)

-- Whether it is torn.
abbrev pub is_torn_at : Block → ℕ × Option Block → Bool
is_torn_at own p = is_none (known_at own p)

-- The blocks that are there.
abbrev pub known_blocks : Block → List (Option Block) → List Block
known_blocks own read = filter_map (known_at own) (enumerate_from 0 read)
