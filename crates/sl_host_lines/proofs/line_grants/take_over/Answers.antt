use Rattle.sl_host_law.specs.Answers.LeaseDecisions.{granting_for}
use Rattle.sl_host_lines.proofs.line_grants.take_over.Goals as goal
use Rattle.sl_host_state.specs.HeardInputs.{heard_line}
use Rattle.sl_host_state.specs.KeptState.{HostState, state_of}
use Rattle.sl_host_state.specs.MadeEffects.{with_end}
use Rattle.sl_trace.specs.Traces.{end_of}
use Rattle.sl_trace.specs.declared.effects.End.{End}
use Rattle.std.proofs.Common.{ap, ℕ, ◌∙◌}

pub returns-clause-state : goal.returns-clause-state
returns-clause-state c read =
    let h = state_of read c.args.host.now.kept in
    let s = c.args.session.now in
    let g = c.args.orphan.now in
    let F : ℕ → HostState → HostState = λ j z. granting_for s j c.args.command.now g.mode g.lver z in
    c.grant_for.ensures.state read
    ∙ (ap (λ z. F c.begin-job.result z) (c.end.ensures.state read)
    ∙ (ap (λ (e : End). F c.begin-job.result (with_end e (state_of read c.begin-job.new.host.kept))) c.end_of.ensures
    ∙ (ap (λ (z : HostState). F c.begin-job.result (with_end (end_of g) z)) (c.begin-job.ensures.state read)
    ∙ ap (λ j. F j (with_end (end_of g) (heard_line c.args.command.now h))) c.begin-job.ensures.job)))
