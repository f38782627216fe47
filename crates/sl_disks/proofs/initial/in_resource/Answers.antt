use Rattle.sl_area.specs.AreaSizes.{layout_of}
use Rattle.sl_area.specs.AreaRecords.{leader_record}
use Rattle.sl_disks.proofs.FirstRecords.{block_first, leader_first, nothing_first, request_first, value_first}
use Rattle.sl_disks.proofs.initial.in_resource.Goals as goal
use Rattle.sl_sector.specs.declared.sector.Rec.TheVariants.{RequestIs, ValueIs}
use Rattle.std.proofs.Common.{ap, arith, eq-eqb, false, ne_eqb, sym, ◌+◌, ◌∙◌, ◌≤◌}

pub returns-then-number-eq0 : goal.returns-then-number-eq0
returns-then-number-eq0 c =
    let g = layout_of c.args.geometry in
    leader_first g c.args.line.now c.args.number c.leader_record.result (eq-eqb c.args.number 0 c.if-number-eq0.true)
    (c.leader_record.ensures ∙ ap (leader_record g) c.fresh_leader.ensures)

pub returns-then-number-eq1 : goal.returns-then-number-eq1
returns-then-number-eq1 c =
    request_first (layout_of c.args.geometry) c.args.line.now c.args.number (RequestIs c.no_request.result) (ne_eqb c.args.number 0 c.if-number-eq0.false)
    (eq-eqb c.args.number 1 c.if-number-eq1.true) (ap (λ q. RequestIs q) c.no_request.ensures)

pub returns-then-number-from : goal.returns-then-number-from
returns-then-number-from c =
    block_first (layout_of c.args.geometry) c.args.line.now c.args.number c.from.result c.fresh_block_at.result (ne_eqb c.args.number 0 c.if-number-eq0.false)
    (ne_eqb c.args.number 1 c.if-number-eq1.false) (c.from.ensures ∙ c.block_sectors.ensures.exact) c.if-number-from.true c.fresh_block_at.ensures

pub returns-then-is_last : goal.returns-then-is_last
returns-then-is_last c =
    let past : c.from.result + 2 ≤ c.args.number = omega (arith, c.if-number-from.false) in
    value_first (layout_of c.args.geometry) c.args.line.now c.args.number c.from.result (ValueIs c.no_value.result) (ne_eqb c.args.number 0 c.if-number-eq0.false)
    (ne_eqb c.args.number 1 c.if-number-eq1.false) (c.from.ensures ∙ c.block_sectors.ensures.exact) past (sym c.if-is_last.ensures) (ap (λ v. ValueIs v) c.no_value.ensures)

pub returns-else-is_last : goal.returns-else-is_last
returns-else-is_last c =
    let past : c.from.result + 2 ≤ c.args.number = omega (arith, c.if-number-from.false) in
    nothing_first (layout_of c.args.geometry) c.args.line.now c.args.number c.from.result (ne_eqb c.args.number 0 c.if-number-eq0.false)
    (ne_eqb c.args.number 1 c.if-number-eq1.false) (c.from.ensures ∙ c.block_sectors.ensures.exact) past (sym c.if-is_last.ensures)
