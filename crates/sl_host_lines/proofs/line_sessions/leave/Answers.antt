use Rattle.sl_host_law.specs.Steps.Passes.{at_member}
use Rattle.sl_host_lines.proofs.LeavesStand.{heard_cost}
use Rattle.sl_host_lines.proofs.line_sessions.leave.Goals as goal
use Rattle.sl_host_lines.specs.LeavingsBegin.{leaving_for}
use Rattle.sl_host_state.specs.HeardInputs.{heard_line}
use Rattle.sl_host_state.specs.KeptState.{HostState, state_of}
use Rattle.std.proofs.Common.{ap, arith, ℕ, ◌∙◌}

pub stop_at-requires-clause-room : goal.stop_at-requires-clause-room
stop_at-requires-clause-room c =
    let more = heard_cost c.args.command.now c.args.host.now c.begin-job.new.host c.begin-job.ensures.state in
    omega (arith, more.0, c.requires.room)

pub stop_at-requires-clause-left : goal.stop_at-requires-clause-left
stop_at-requires-clause-left c =
    let more = heard_cost c.args.command.now c.args.host.now c.begin-job.new.host c.begin-job.ensures.state in
    omega (arith, more.1, c.requires.left, c.begin-job.ensures.left.0)

pub returns-clause-state : goal.returns-clause-state
returns-clause-state c read =
    let h = state_of read c.args.host.now.kept in
    let F : ℕ → HostState → HostState = λ j z. at_member c.args.session.now.number (leaving_for j) z in
    c.stop_at.ensures.state read ∙ (ap (λ z. F c.begin-job.result z) (c.begin-job.ensures.state read) ∙ ap (λ j. F j (heard_line c.args.command.now h)) c.begin-job.ensures.job)

pub returns-clause-left : goal.returns-clause-left
returns-clause-left c =
    let more = heard_cost c.args.command.now c.args.host.now c.begin-job.new.host c.begin-job.ensures.state in
    (omega (arith, more.1, c.begin-job.ensures.left.0, c.stop_at.ensures.left.0), omega (arith, c.begin-job.ensures.left.1, c.stop_at.ensures.left.1))
