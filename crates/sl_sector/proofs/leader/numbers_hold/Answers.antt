use Rattle.std.proofs.Common.{◌∙◌}
use Rattle.sl_sector.specs.SectorLayouts.{leader_rules}
use Rattle.sl_sector.proofs.leader.numbers_hold.Goals as goal

pub returns : goal.returns
unfolding leader_rules
returns c =
    c.all_hold.ensures
    ∙ simp (c.both.ensures, c.both-2.ensures, c.both-3.ensures, c.is_host.ensures, c.is_number.ensures, c.is_number-2.ensures, c.implies.ensures, c.agree.ensures, c.agree-2.ensures, c.u32_at-state.ensures, c.u32_at-num_hosts.ensures, c.u64_at-lver.ensures, c.u64_at-generation.ensures, c.u32_at-owner.ensures)
