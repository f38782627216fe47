use Rattle.sl_area.specs.AreaSizes.{layout_of}
use Rattle.sl_lease.proofs.ReadLaws.{leader_is}
use Rattle.sl_lease.proofs.block_reads.Blocks.gather.Goals as goal
use Rattle.sl_trace.specs.LeaseDecisions.{first_step, part_read}
use Rattle.std.proofs.Common.{[], ◌∙◌}
use Rattle.std.specs.Option.{option_map_or}

pub returns-clause-leader : goal.returns-clause-leader
returns-clause-leader g c =
    c.leader.ensures.exact
    ∙ leader_is c.args.geometry.now (option_map_or (λ ps. ps.now) c.args.first []) c.args.step.now (g.S.Sectors.bytes c.args.sectors.now) c.put_in_places.new.self.pairs
    (c.put_in_places.ensures (part_read (layout_of c.args.geometry.now) (g.S.Sectors.bytes c.args.sectors.now) (first_step c.args.step.now)) c.requires.has).pairs

pub returns-clause-blocks : goal.returns-clause-blocks
returns-clause-blocks g c =
    (c.put_in_places.ensures (part_read (layout_of c.args.geometry.now) (g.S.Sectors.bytes c.args.sectors.now) (first_step c.args.step.now)) c.requires.has).blocks

pub returns-clause-places : goal.returns-clause-places
returns-clause-places g c =
    (c.put_in_places.ensures (part_read (layout_of c.args.geometry.now) (g.S.Sectors.bytes c.args.sectors.now) (first_step c.args.step.now)) c.requires.has).places
