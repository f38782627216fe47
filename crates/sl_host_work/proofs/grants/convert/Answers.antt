use Rattle.sl_host_state.specs.KeptState.{HostState, state_of}
use Rattle.sl_host_state.specs.MadeEffects.{with_end, with_grant, with_reply}
use Rattle.sl_host_work.proofs.grants.convert.Goals as goal
use Rattle.sl_trace.specs.declared.effects.Grant.{Grant}
use Rattle.sl_trace.specs.declared.reply.Reply.TheVariants.{Granted}
use Rattle.std.proofs.Common.{ap, ◌∙◌}

pub returns-clause-state : goal.returns-clause-state
returns-clause-state c read =
    let a = c.args in
    let held : Grant = a.held.now in
    let made : HostState → HostState = λ h. with_reply a.job (Granted a.lver) (with_grant (record held { mode = a.mode; lver = a.lver }) h) in
    c.grant.ensures.state read ∙ (ap made (c.end.ensures.state read) ∙ ap (λ e. made (with_end e (state_of read a.host.now.kept))) c.end_of.ensures)
