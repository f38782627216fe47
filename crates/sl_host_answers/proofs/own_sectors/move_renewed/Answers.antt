use Rattle.sl_host_answers.proofs.OwnSectorsStand.{moves}
use Rattle.sl_host_answers.proofs.own_sectors.move_renewed.Goals as goal
use Rattle.sl_host_state.specs.KeptState.{state_of}
use Rattle.std.proofs.Common.{◌∙◌}

pub returns-then-not-recovering-clause-state : goal.returns-then-not-recovering-clause-state
returns-then-not-recovering-clause-state c read =
    c.carry.ensures.state read ∙ moves c.args.who.now c.args.recovering c.args.renewed (state_of read c.args.host.now.kept) c.if-not-recovering.true
