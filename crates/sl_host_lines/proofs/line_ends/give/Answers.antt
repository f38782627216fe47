use Rattle.sl_host_law.specs.Steps.Passes.{at_member}
use Rattle.sl_host_lines.proofs.EndsStand.{given_on}
use Rattle.sl_host_lines.proofs.HeardKnown.{release_ended}
use Rattle.sl_host_lines.proofs.line_ends.give.Goals as goal
use Rattle.sl_host_lines.specs.HoldingEnds.{gone_on}
use Rattle.sl_host_state.specs.KeptState.{HostState, state_of}
use Rattle.sl_host_state.specs.MadeEffects.{with_end}
use Rattle.sl_trace.specs.declared.effects.End.{End}
use Rattle.std.proofs.Common.{ap, sym, ◌∙◌}

pub go_on-requires-clause-may : goal.go_on-requires-clause-may
go_on-requires-clause-may c = release_ended c.end_of.result c.args.host.now c.end.new.self c.end.ensures.state c.end.ensures.run c.args.number c.args.holding.now c.requires.may

pub returns-then-is_there-clause-state : goal.returns-then-is_there-clause-state
returns-then-is_there-clause-state c read =
    let h = state_of read c.args.host.now.kept in
    let g = c.args.holding.now in
    let F : HostState → HostState = λ z. at_member c.args.number (gone_on c.args.job g) z in
    c.go_on.ensures.state read
    ∙ (ap F (c.end.ensures.state read)
    ∙ (ap (λ (e : End). F (with_end e h)) c.end_of.ensures ∙ given_on h g c.args.number c.args.job (sym c.is_there.ensures ∙ c.if-is_there.true)))
