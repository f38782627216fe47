use Rattle.sl_area.proofs.FreshRecords.{block_with_pairs, block_without}
use Rattle.sl_area.specs.AreaSizes.{layout_of}
use Rattle.sl_area.specs.AreaRecords.{fresh_block, fresh_pair}
use Rattle.sl_disks.proofs.initial.fresh_block_at.Goals as goal
use Rattle.sl_sector.specs.declared.sector.Rec.TheVariants.{BlockIs, PairIs}
use Rattle.std.proofs.Common.{ap, rules, sym, ◌%◌, ◌+◌, ◌-◌, ◌/◌, ◌∙◌, ◌≡◌}

pub returns-then-is_paired : goal.returns-then-is_paired
returns-then-is_paired c =
    let n = c.args.number in
    let line = c.args.line.now in
    let pair : c.fresh_pair.result ≡ fresh_pair (n / 2) (1 + n % 2) line.lockspace line.name = search rules in
    ap (λ p. PairIs p) pair ∙ block_with_pairs (layout_of c.args.geometry) line.lockspace line.name n (sym c.if-is_paired.ensures.exact)

pub returns-else-is_paired : goal.returns-else-is_paired
returns-else-is_paired c =
    let n = c.args.number in
    let line = c.args.line.now in
    let block : c.fresh_block.result ≡ fresh_block (n - 1) = search rules in
    ap (λ b. BlockIs b) block ∙ block_without (layout_of c.args.geometry) line.lockspace line.name n (sym c.if-is_paired.ensures.exact)
