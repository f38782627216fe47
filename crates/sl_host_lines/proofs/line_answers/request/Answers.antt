use Rattle.sl_host_state.specs.HeardInputs.{heard_line}
use Rattle.sl_host_state.specs.KeptState.{HostState, state_of}
use Rattle.sl_host_state.specs.MadeEffects.{with_call}
use Rattle.sl_host_lines.proofs.line_answers.request.Goals as goal
use Rattle.sl_trace.specs.declared.effects.Op.TheVariants.{ReadSectors}
use Rattle.sl_trace.specs.declared.effects.Purpose.TheVariants.{RequestRead}
use Rattle.std.proofs.Common.{ap, ℕ, ◌∙◌}

pub returns-clause-state : goal.returns-clause-state
returns-clause-state c read =
    let h = state_of read c.args.host.now.kept in
    let s = c.args.session.now.number in
    let r = c.args.resource.now in
    let F : ℕ → HostState → HostState = λ j g. with_call s r.path (RequestRead j) r.offset (ReadSectors 2) g in
    c.call.ensures.state read
    ∙ (ap (λ g. F c.begin-job.result g) (c.begin-job.ensures.state read)
    ∙ ap (λ j. F j (heard_line c.args.command.now h)) c.begin-job.ensures.job)
