use Rattle.sl_host_law.specs.Steps.Passes.{at_member}
use Rattle.sl_host_lines.proofs.HeardKnown.{release_heard}
use Rattle.sl_host_lines.proofs.line_ends.give_up.Goals as goal
use Rattle.sl_host_lines.specs.HoldingEnds.{giving}
use Rattle.sl_host_state.specs.HeardInputs.{heard_line}
use Rattle.sl_host_state.specs.KeptState.{HostState, state_of}
use Rattle.std.proofs.Common.{ap, ℕ, ◌∙◌}

pub give-requires-clause-may : goal.give-requires-clause-may
give-requires-clause-may c =
    release_heard c.args.command.now c.args.host.now c.begin-job.new.host c.begin-job.ensures.state c.begin-job.ensures.run c.args.session.now.number c.args.holding.now c.requires.may

pub returns-clause-state : goal.returns-clause-state
returns-clause-state c read =
    let h = state_of read c.args.host.now.kept in
    let g = c.args.holding.now in
    let F : ℕ → HostState → HostState = λ j z. at_member c.args.session.now.number (giving j g) z in
    c.give.ensures.state read ∙ (ap (λ z. F c.begin-job.result z) (c.begin-job.ensures.state read) ∙ ap (λ j. F j (heard_line c.args.command.now h)) c.begin-job.ensures.job)
