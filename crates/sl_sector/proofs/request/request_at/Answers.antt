use Rattle.std.proofs.Common.{◌∙◌}
use Rattle.sl_sector.specs.SectorLayouts.{request_rules}
use Rattle.sl_sector.proofs.request.request_at.Goals as goal

pub returns : goal.returns
unfolding request_rules
returns c =
    c.under.ensures
    ∙ simp (
      c.both.ensures,
      c.is_number.ensures,
      c.agree.ensures,
      c.u32_at-force.ensures,
      c.u32_at-host.ensures,
      c.u64_at-lver.ensures,
    )
