use Rattle.sl_host_state.specs.KeptState.{state_of}
use Rattle.sl_host_work.proofs.Sequences.{converted_one}
use Rattle.sl_host_work.proofs.grants.convert_for.Goals as goal
use Rattle.std.proofs.Common.{◌∙◌}

pub returns-in-Some-held_otherwise-clause-state : goal.returns-in-Some-held_otherwise-clause-state
returns-in-Some-held_otherwise-clause-state c read =
    let a = c.args in
    c.convert.ensures.state read
    ∙ converted_one a.who.now a.at.now a.job a.command.now a.mode a.lver (state_of read a.host.now.kept) c.in-Some.process c.in-Some-held_otherwise.held c.in-Some.ensures c.in-Some-held_otherwise.ensures
