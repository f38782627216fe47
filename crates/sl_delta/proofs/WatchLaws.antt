-- Where nothing was read, nothing is spelled.
use Rattle.sl_area.specs.AreaSizes.{Layout}
use Rattle.sl_sector.specs.SectorLayouts.{decoded, magic}
use Rattle.sl_trace.specs.DeltaDecisions.{version_in}
use Rattle.std.proofs.Common.{None, [], refl, ◌≡◌}

pub nothing_spelled : (g : Layout) → version_in g [] ≡ None
unfolding decoded magic
nothing_spelled g = refl
