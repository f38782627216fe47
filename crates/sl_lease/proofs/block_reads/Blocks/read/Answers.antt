use Rattle.sl_lease.proofs.ReadLaws.{again_is, has_blocks, has_part, part_is}
use Rattle.sl_lease.proofs.block_reads.Blocks.read.Goals as goal
use Rattle.sl_lease.specs.Reads.{ReadRoom, behind, blocks_to, is_torn_to}
use Rattle.sl_area.specs.AreaSizes.{Sizes}
use Rattle.sl_trace.specs.LeaseDecisions.{read_of_step}
use Rattle.std.proofs.Common.{List, ap, is_some, sym, ℕ, ◌&&◌, ◌∙◌, ◌≡◌}

pub returns-then-is_paired-clause-again : goal.returns-then-is_paired-clause-again
returns-then-is_paired-clause-again g c =
    let z : Sizes = c.args.geometry.now in
    let bytes : List ℕ = g.S.Sectors.bytes c.args.sectors.now in
    c.is_made_again.ensures
    ∙ ap (λ t. t && is_some (read_of_step c.args.step.now))
    (c.read_pairs-torn.ensures.torn ∙ ap (λ bs. is_torn_to z bs z.hosts) (ap (λ n. behind z n bytes) c.sectors_before-skipped.ensures ∙ sym (part_is z bytes c.args.step.now)))
    ∙ again_is z bytes c.args.step.now (sym c.is_paired.ensures.exact ∙ c.if-is_paired.true)

pub returns-then-is_paired-clause-has : goal.returns-then-is_paired-clause-has
returns-then-is_paired-clause-has g c =
    has_part c.args.geometry.now (g.S.Sectors.bytes c.args.sectors.now) c.args.step.now c.sectors_before-skipped.result c.read_pairs-torn.new.self c.sectors_before-skipped.ensures
    c.read_pairs-torn.ensures.has

pub returns-else-is_paired-clause-has : goal.returns-else-is_paired-clause-has
returns-else-is_paired-clause-has g c =
    let old : ReadRoom = c.args.self.now in
    let new : ReadRoom = c.read_single.new.self in
    let made : new ≡ record old { blocks = blocks_to c.args.geometry.now (behind c.args.geometry.now c.sectors_before-skipped.result (g.S.Sectors.bytes c.args.sectors.now)) c.args.geometry.now.hosts } = c.read_single.ensures in
    has_part c.args.geometry.now (g.S.Sectors.bytes c.args.sectors.now) c.args.step.now c.sectors_before-skipped.result new c.sectors_before-skipped.ensures
    (has_blocks c.args.geometry.now (behind c.args.geometry.now c.sectors_before-skipped.result (g.S.Sectors.bytes c.args.sectors.now)) old new
    (sym c.is_paired.ensures.exact ∙ c.if-is_paired.false) c.requires.can.places
    (ap (λ (r : ReadRoom). r.blocks) made) (ap (λ (r : ReadRoom). r.pairs) made) (ap (λ (r : ReadRoom). r.kept) made))
