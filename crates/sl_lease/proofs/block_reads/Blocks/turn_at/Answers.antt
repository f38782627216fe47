use Rattle.sl_lease.proofs.ReadLaws.{turn_in, turn_is}
use Rattle.sl_lease.proofs.block_reads.Blocks.turn_at.Goals as goal
use Rattle.sl_lease.specs.Reads.{ReadRoom}
use Rattle.sl_sector.specs.declared.sector.PairBlock.{PairBlock}
use Rattle.std.proofs.Common.{List, None, Option, ap, cond, sym, ◌-◌, ◌∙◌}
use Rattle.std.specs.Prelude.{slice_index_or}

pub returns-then-shows_blocks-clause-heard : goal.returns-then-shows_blocks-clause-heard
returns-then-shows_blocks-clause-heard c =
    λ z bytes has most.
    c.turn_of.ensures.exact ∙ ap (λ (ps : List (Option PairBlock)). turn_in (slice_index_or ps (c.args.host - 1) None)) (c.deref.ensures.value ∙ ap (λ (r : ReadRoom). r.pairs) c.self.view_is)
    ∙ sym (ap (λ b. cond b (turn_in (slice_index_or c.args.self.now.pairs (c.args.host - 1) None)) None) (sym c.shows_blocks.ensures ∙ c.if-shows_blocks.true))
    ∙ turn_is z c.args.host c.args.step.now bytes c.args.self.now c.requires most has

pub returns-else-shows_blocks-clause-heard : goal.returns-else-shows_blocks-clause-heard
returns-else-shows_blocks-clause-heard c =
    λ z bytes has most.
    sym (ap (λ b. cond b (turn_in (slice_index_or c.args.self.now.pairs (c.args.host - 1) None)) None) (sym c.shows_blocks.ensures ∙ c.if-shows_blocks.false))
    ∙ turn_is z c.args.host c.args.step.now bytes c.args.self.now c.requires most has
