use Rattle.sl_host_state.specs.HeardInputs.{heard_line}
use Rattle.sl_host_state.specs.KeptState.{HostState, state_of}
use Rattle.sl_host_state.specs.MadeEffects.{with_call}
use Rattle.sl_host_lines.proofs.line_answers.set_value.Goals as goal
use Rattle.sl_sector.specs.declared.sector.Rec.TheVariants.{ValueIs}
use Rattle.sl_trace.specs.declared.effects.Op.TheVariants.{WriteRecord}
use Rattle.sl_trace.specs.declared.effects.Purpose.TheVariants.{ValueWrite}
use Rattle.std.proofs.Common.{ap, ℕ, ◌∙◌}

pub returns-clause-state : goal.returns-clause-state
returns-clause-state c read =
    let h = state_of read c.args.host.now.kept in
    let s = c.args.session.now.number in
    let at = c.args.at.now in
    let F : ℕ → ℕ → HostState → HostState = λ j o g. with_call s at.path (ValueWrite j) o (WriteRecord (ValueIs c.args.value)) g in
    c.call.ensures.state read
    ∙ (ap (λ g. F c.begin-job.result c.value_of-offset.result g) (c.begin-job.ensures.state read)
    ∙ (ap (λ j. F j c.value_of-offset.result (heard_line c.args.command.now h)) c.begin-job.ensures.job
    ∙ ap (λ o. F h.next_job o (heard_line c.args.command.now h)) c.value_of-offset.ensures))
