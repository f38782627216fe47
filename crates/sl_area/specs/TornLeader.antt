-- The leader that a read gives: a torn one is made of the blocks, where these have pairs.
use Rattle.sl_area.specs.AreaSizes.{Layout}
use Rattle.sl_sector.specs.declared.sector.Leader.{Leader}
use Rattle.sl_sector.specs.declared.sector.PairBlock.{PairBlock}
use Rattle.sl_words.specs.Words.{choose, greatest, present}
use Rattle.std.specs.Prelude.{List, None, Option, Some, false, find, map, nat_lt, option_and_then, true, ℕ, ◌==◌}
use Rattle.sl_area.specs.AreaLayout.{leader_of}
use Rattle.sl_area.specs.AreaRecords.{fresh_leader}
use Rattle.sl_area.specs.Pairs.{BlocksRead, pairs_of}

-- The greatest lver among pairs.
abbrev pub greatest_lver : List PairBlock → ℕ
greatest_lver ps = greatest (map (λ p. p.block.lver) ps)

-- The leader for which a torn one is taken: never held, with the names that the least host's block of the greatest lver has. (A leader
-- was written only by a session whose block had reached its lver, so the ballot of the greatest lver is run again.) Where all lvers are
-- 0 there is none.
abbrev pub leader_made : Layout → List PairBlock → Option Leader
leader_made g ps =
    option_and_then (λ p. choose (nat_lt 0 (greatest_lver ps)) (fresh_leader g p.lockspace p.resource)) (find (λ p. p.block.lver == greatest_lver ps) ps)

-- The leader that a read of the area gives: the one that is spelled; with pairs, a torn one is made from the blocks.
abbrev pub leader_read : Layout → List ℕ → BlocksRead → Option Leader
leader_read g bs r =
    elim g.paired [
      | false ↦ leader_of g bs
      | true ↦ elim (leader_of g bs) [ Some l ↦ Some l | None ↦ leader_made g (present (pairs_of g r)) ]
    ]
