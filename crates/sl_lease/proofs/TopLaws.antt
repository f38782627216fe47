-- The greatest of numbers, as it is found one by one.
use Rattle.sl_area.specs.TornLeader.{greatest_lver}
use Rattle.sl_host_state.specs.HostStands.{top_mbal}
use Rattle.sl_lease.specs.LeaseQuestions.{top_beside}
use Rattle.sl_lease.specs.Changes.{top_within}
use Rattle.sl_lease.specs.Reads.{top_of}
use Rattle.sl_trace.specs.Leases.{top_lver}
use Rattle.sl_sector.specs.declared.sector.Block.{Block}
use Rattle.sl_sector.specs.declared.sector.PairBlock.{PairBlock}
use Rattle.sl_words.specs.Words.{greatest, present}
use Rattle.std.proofs.Common.{arith}
use Rattle.std.specs.List.{fold}
use Rattle.std.specs.Prelude.{Bool, List, None, Option, Some, [], cond, false, filter, map, max, not, true, ◌==◌, ◌∷◌, ◌≡◌, ℕ}

-- The greatest lver.
beside_from : (own : Block) (top : ℕ) (read : List (Option Block))
    → fold (top_beside own) top read ≡ max top (greatest (map (λ b. b.lver) (filter (λ b. not (b.host == own.host)) (present read))))
beside_from own top [] = omega arith
beside_from own top (None ∷ read) = beside_from own top read
beside_from own top (Some b ∷ read) = by (b.host == own.host) (beside_from own top read) (beside_from own (max top b.lver) read) where
  rest : List Block
  rest = filter (λ b. not (b.host == own.host)) (present read)

  by : (t : Bool) → fold (top_beside own) top read ≡ max top (greatest (map (λ b. b.lver) rest))
      → fold (top_beside own) (max top b.lver) read ≡ max (max top b.lver) (greatest (map (λ b. b.lver) rest))
      → fold (top_beside own) (cond t top (max top b.lver)) read ≡ max top (greatest (map (λ b. b.lver) (cond (not t) (b ∷ rest) rest)))
  by true past taken = past
  by false past taken = omega (arith, taken)

pub beside_top : (own : Block) (read : List (Option Block)) → fold (top_beside own) own.lver read ≡ top_lver own read
beside_top own read = beside_from own own.lver read

-- The greatest number.
within_from : (n top : ℕ) (read : List (Option Block)) → fold (top_within n) top read ≡ max top (top_mbal n read)
within_from n top [] = omega arith
within_from n top (None ∷ read) = within_from n top read
within_from n top (Some b ∷ read) = by (b.lver == n) (within_from n top read) (within_from n (max top b.mbal) read) where
  rest : List Block
  rest = filter (λ b. b.lver == n) (present read)

  by : (t : Bool) → fold (top_within n) top read ≡ max top (greatest (map (λ b. b.mbal) rest))
      → fold (top_within n) (max top b.mbal) read ≡ max (max top b.mbal) (greatest (map (λ b. b.mbal) rest))
      → fold (top_within n) (cond t (max top b.mbal) top) read ≡ max top (greatest (map (λ b. b.mbal) (cond t (b ∷ rest) rest)))
  by true past taken = omega (arith, taken)
  by false past taken = past

pub within_top : (n : ℕ) (read : List (Option Block)) → fold (top_within n) 0 read ≡ top_mbal n read
within_top n read = omega (arith, within_from n 0 read)

-- The greatest lver of pairs.
pairs_from : (top : ℕ) (pairs : List (Option PairBlock)) → fold top_of top pairs ≡ max top (greatest_lver (present pairs))
pairs_from top [] = omega arith
pairs_from top (None ∷ pairs) = pairs_from top pairs
pairs_from top (Some p ∷ pairs) = omega (arith, pairs_from (max top p.block.lver) pairs)

pub pairs_top : (pairs : List (Option PairBlock)) → fold top_of 0 pairs ≡ greatest_lver (present pairs)
pairs_top pairs = omega (arith, pairs_from 0 pairs)
