use Rattle.sl_host_law.specs.Steps.Passes.{at_member}
use Rattle.sl_host_lines.proofs.HeardKnown.{convert_heard}
use Rattle.sl_host_lines.proofs.line_ends.convert.Goals as goal
use Rattle.sl_host_lines.specs.HoldingEnds.{turning}
use Rattle.sl_host_lines.specs.LineFacts.{MayConvertAt}
use Rattle.sl_host_state.specs.HeardInputs.{heard_line}
use Rattle.sl_host_state.specs.KeptState.{HostState, state_of}
use Rattle.sl_trace.specs.Leases.{spot_of}
use Rattle.sl_trace.specs.declared.effects.Spot.{Spot}
use Rattle.std.proofs.Common.{ap, subst, sym, ℕ, ◌∙◌}

pub turn-requires-clause-may : goal.turn-requires-clause-may
turn-requires-clause-may c =
    subst (λ (at : Spot). MayConvertAt c.begin-job.new.host.kept c.args.session.now.number at) (sym c.spot_of-at.ensures)
    (convert_heard c.args.command.now c.args.host.now c.begin-job.new.host c.begin-job.ensures.state c.begin-job.ensures.run c.args.session.now.number (spot_of c.args.resource.now) c.requires.may)

pub returns-clause-state : goal.returns-clause-state
returns-clause-state c read =
    let h = state_of read c.args.host.now.kept in
    let F : ℕ → Spot → HostState → HostState = λ j at z. at_member c.args.session.now.number (turning j at c.args.mode c.args.resource.now.name) z in
    c.turn.ensures.state read
    ∙ (ap (λ z. F c.begin-job.result c.spot_of-at.result z) (c.begin-job.ensures.state read)
    ∙ (ap (λ j. F j c.spot_of-at.result (heard_line c.args.command.now h)) c.begin-job.ensures.job
    ∙ ap (λ at. F h.next_job at (heard_line c.args.command.now h)) c.spot_of-at.ensures))
