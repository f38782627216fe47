use Rattle.sl_host.specs.BookQuestions.{state_in}
use Rattle.sl_host_law.specs.Steps.Leases.{lease_at}
use Rattle.sl_host_work.proofs.LeaseNextStands.{answers_fit, asked_again_so, asked_read, reads_turned, some_call}
use Rattle.sl_host_work.proofs.asked_lease.next_after_read.Goals as goal
use Rattle.sl_host_work.specs.LeaseQuestions.{blocks_told}
use Rattle.sl_trace.specs.declared.input.Answer.TheVariants.{Read}
use Rattle.std.proofs.Common.{refl, ◌∙◌}

-- To be made once more.
pub returns-in-Again-clause-exact : goal.returns-in-Again-clause-exact
returns-in-Again-clause-exact c call bytes shown =
    asked_again_so c.args.host.now.kept c.args.member.now.state c.args.at.now call c.args.aim c.args.step bytes c.args.told.now c.args.blocks.now c.after_first.result shown c.in-Again.is c.after_first.ensures.decides

pub returns-in-Again-clause-fit : goal.returns-in-Again-clause-fit
returns-in-Again-clause-fit c =
    answers_fit (state_in c.args.host.now.kept) c.args.member.now.state c.args.at.now (blocks_told c.args.told.now c.args.blocks.now (lease_at c.args.member.now.state c.args.at.now)) c.after_first.result c.requires.may
    c.after_first.ensures.fit some_call c.args.aim c.args.step (Read c.requires.shown.0) (returns-in-Again-clause-exact c some_call c.requires.shown.0 c.requires.shown.1)

pub returns-in-Again-clause-turned : goal.returns-in-Again-clause-turned
returns-in-Again-clause-turned c =
    reads_turned c.args.host.now.kept.config.sizes (state_in c.args.host.now.kept) c.args.member.now.state c.args.at.now
    (blocks_told c.args.told.now c.args.blocks.now (lease_at c.args.member.now.state c.args.at.now)) c.after_first.result c.requires.may some_call c.args.aim c.args.step c.requires.shown.0 refl c.requires.shown.1.known
    (returns-in-Again-clause-exact c some_call c.requires.shown.0 c.requires.shown.1)

-- What it gave.
pub returns-in-Gave-clause-exact : goal.returns-in-Gave-clause-exact
returns-in-Gave-clause-exact c call bytes shown =
    c.next_after_blocks.ensures.exact
    ∙ asked_read c.args.host.now.kept c.args.member.now.state c.args.at.now call c.args.aim c.args.step bytes c.args.told.now c.args.blocks.now c.in-Gave.leader shown c.in-Gave.is

pub returns-in-Gave-clause-fit : goal.returns-in-Gave-clause-fit
returns-in-Gave-clause-fit c =
    answers_fit (state_in c.args.host.now.kept) c.args.member.now.state c.args.at.now (blocks_told c.args.told.now c.args.blocks.now (lease_at c.args.member.now.state c.args.at.now)) c.next_after_blocks.result c.requires.may
    c.next_after_blocks.ensures.fit some_call c.args.aim c.args.step (Read c.requires.shown.0) (returns-in-Gave-clause-exact c some_call c.requires.shown.0 c.requires.shown.1)

pub returns-in-Gave-clause-turned : goal.returns-in-Gave-clause-turned
returns-in-Gave-clause-turned c =
    reads_turned c.args.host.now.kept.config.sizes (state_in c.args.host.now.kept) c.args.member.now.state c.args.at.now
    (blocks_told c.args.told.now c.args.blocks.now (lease_at c.args.member.now.state c.args.at.now)) c.next_after_blocks.result c.requires.may some_call c.args.aim c.args.step c.requires.shown.0 refl c.requires.shown.1.known
    (returns-in-Gave-clause-exact c some_call c.requires.shown.0 c.requires.shown.1)
