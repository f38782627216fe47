use Rattle.sl_host_law.specs.Answers.LeaseDecisions.{writing_block}
use Rattle.sl_host_work.proofs.BlocksStand.{block_written}
use Rattle.sl_host_work.proofs.lease_work.become_exclusive.Goals as goal
use Rattle.sl_trace.specs.declared.effects.LeaseStep.TheVariants.{ClearMode}
use Rattle.sl_trace.specs.declared.effects.Work.TheVariants.{Settling}
use Rattle.std.proofs.Common.{ap, sym, ◌∙◌}

pub returns-clause-state : goal.returns-clause-state
returns-clause-state c m found is read =
    let a = c.args in
    block_written a.host.now.kept c.converted.new.host c.write_own.new.host m a.who.now a.at.now Settling ClearMode a.block c.own_block-own.result (sym c.converted.ensures.run.0) (c.own_block-own.ensures.exact m found is) is
    c.write_own.ensures.state read
    ∙ ap (writing_block m a.at.now Settling ClearMode a.block) (c.converted.ensures.state read)
