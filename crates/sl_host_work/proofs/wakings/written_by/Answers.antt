use Rattle.sl_host_work.proofs.WakingStands.{due_is}
use Rattle.sl_host_work.proofs.wakings.written_by.Goals as goal
use Rattle.std.proofs.Common.{◌∙◌}

pub returns-clause-exact : goal.returns-clause-exact
returns-clause-exact c =
    c.renewal_written.ensures.exact ∙ due_is c.args.host.now.kept c.args.member.now c.reading.result c.renewal-next.result c.requires.run c.reading.ensures c.renewal-next.ensures.exact
