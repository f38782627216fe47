use Rattle.sl_area.proofs.FreshRecords.{block_with_pairs, block_without}
use Rattle.sl_area.specs.AreaSizes.{layout_of}
use Rattle.sl_area.specs.AreaRecords.{fresh_block, fresh_pair}
use Rattle.sl_direct.proofs.fresh_records.fresh_block_at.Goals as goal
use Rattle.sl_sector.specs.declared.sector.Rec.TheVariants.{BlockIs, PairIs}
use Rattle.std.proofs.Common.{ap, arith, rules, sym, ◌%◌, ◌+◌, ◌-◌, ◌/◌, ◌∙◌, ◌≡◌}

pub returns-then-is_paired : goal.returns-then-is_paired
returns-then-is_paired c =
    let n = c.args.k + 1 in
    let pair : c.fresh_pair.result ≡ fresh_pair (n / 2) (1 + n % 2) c.args.lockspace c.args.resource = search rules in
    ap (λ p. PairIs p) pair ∙ block_with_pairs (layout_of c.args.geometry) c.args.lockspace c.args.resource n (sym c.if-is_paired.ensures.exact)

pub returns-else-is_paired : goal.returns-else-is_paired
returns-else-is_paired c =
    let n = c.args.k + 1 in
    let next : c.args.k ≡ n - 1 = omega arith in
    ap (λ b. BlockIs b) (c.fresh_block.ensures ∙ ap fresh_block next)
    ∙ block_without (layout_of c.args.geometry) c.args.lockspace c.args.resource n (sym c.if-is_paired.ensures.exact)
