use Rattle.std.proofs.Common.{◌∙◌}
use Rattle.sl_sector.specs.SectorLayouts.{block_rules}
use Rattle.sl_sector.proofs.block.block_at.Goals as goal

pub returns : goal.returns
unfolding block_rules
returns c =
    c.under.ensures
    ∙ simp (
      c.both.ensures,
      c.both-2.ensures,
      c.both-3.ensures,
      c.both-4.ensures,
      c.both-5.ensures,
      c.is_host.ensures,
      c.is_number.ensures,
      c.is_number-2.ensures,
      c.is_number-3.ensures,
      c.is_number-4.ensures,
      c.implies.ensures,
      c.implies-2.ensures,
      c.agree.ensures,
      c.agree-2.ensures,
      c.agree-3.ensures,
      c.u32_at-host.ensures,
      c.u32_at-mode.ensures,
      c.u64_at-lver.ensures,
      c.u64_at-mbal.ensures,
      c.u64_at-bal.ensures,
      c.u64_at-inp_gen.ensures,
      c.u64_at-mode_gen.ensures,
      c.u32_at-inp.ensures,
    )
