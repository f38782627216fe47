use Rattle.sl_host_lines.proofs.EndsStand.{bare_found}
use Rattle.sl_host_lines.proofs.line_ends.is_bare.Goals as goal
use Rattle.sl_trace.specs.declared.session.Session.{Session}
use Rattle.std.proofs.Common.{ap}

pub returns : goal.returns
returns c =
    bare_found (λ g. g.now) c.held.result c.is_none.result c.who.result.now.number c.args.member.now.state.who.number c.args.at.now c.args.host.now.kept.holdings c.is_none.ensures c.held.ensures
    (ap (λ (s : Session). s.number) c.who.ensures)
