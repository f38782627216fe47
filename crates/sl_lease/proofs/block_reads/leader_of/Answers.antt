use Rattle.sl_area.specs.AreaSizes.{layout_of, program_digest}
use Rattle.sl_area.specs.AreaLayout.{leader_spelled}
use Rattle.sl_lease.proofs.block_reads.leader_of.Goals as goal
use Rattle.sl_sector.specs.SectorLayouts.{decoded}
use Rattle.std.proofs.Common.{ap, drop, take, ◌*◌, ◌∙◌}

pub returns-clause-exact : goal.returns-clause-exact
returns-clause-exact g c =
    c.leader_spelled.ensures.exact (layout_of c.args.geometry.now) c.is_paired.ensures.exact
    ∙ ap (λ r. leader_spelled (layout_of c.args.geometry.now) r)
    (c.record-found.ensures.exact ∙ ap (λ n. decoded program_digest (take n (drop (0 * n) (g.S.Sectors.bytes c.args.sectors.now)))) c.sector.ensures.exact)
