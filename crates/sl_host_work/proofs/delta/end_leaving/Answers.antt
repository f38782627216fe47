use Rattle.sl_host_law.specs.StepParts.Ends.{removing}
use Rattle.sl_host_state.specs.KeptState.{HostState, state_of}
use Rattle.sl_host_state.specs.MadeEffects.{with_reply}
use Rattle.sl_host_work.proofs.delta.end_leaving.Goals as goal
use Rattle.std.proofs.Common.{ap, sym, ◌∙◌}
use Rattle.std.specs.Prelude.{cond}

pub returns-then-runs-clause-state : goal.returns-then-runs-clause-state
returns-then-runs-clause-state c read =
    let a = c.args in
    let gone : HostState = removing a.who.now.lockspace (state_of read a.host.now.kept) in
    c.reply.ensures.state read
    ∙ (ap (with_reply a.job a.reply) (c.remove_connection.ensures.state read)
    ∙ sym (ap (λ b. cond b (with_reply a.job a.reply gone) gone) (sym c.runs-runs.ensures ∙ c.if-runs.true)))

pub returns-else-runs-clause-state : goal.returns-else-runs-clause-state
returns-else-runs-clause-state c read =
    let a = c.args in
    let gone : HostState = removing a.who.now.lockspace (state_of read a.host.now.kept) in
    c.remove_connection.ensures.state read ∙ sym (ap (λ b. cond b (with_reply a.job a.reply gone) gone) (sym c.runs-runs.ensures ∙ c.if-runs.false))
