use Rattle.sl_lease.proofs.ReadLaws.{leader_inside}
use Rattle.sl_lease.proofs.block_reads.Blocks.leader.Goals as goal
use Rattle.std.proofs.Common.{length, sym, ◌∙◌}

pub leader_of-requires-clause-many : goal.leader_of-requires-clause-many
leader_of-requires-clause-many g c =
    leader_inside c.args.geometry.now c.args.step.now (length (g.S.Sectors.bytes c.args.sectors.now)) (sym c.reads_area.ensures ∙ c.if-not-reads_area.false) c.requires.many
