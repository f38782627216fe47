use Rattle.sl_delta.specs.OwnSector.{known_with}
use Rattle.sl_member.proofs.MemberParts.{lease_is}
use Rattle.sl_member.proofs.member.Member.free.Goals as goal
use Rattle.sl_member.specs.Members.{MemberKept, delta_lease}
use Rattle.sl_trace.specs.DeltaDecisions.{next_free}
use Rattle.std.proofs.Common.{ap, is_some, ◌∙◌}

pub returns-clause-exact : goal.returns-clause-exact
returns-clause-exact c =
    let recovering = is_some c.self.inside.renewing.recovery in
    c.free.ensures.exact recovering ∙ ap (λ l. next_free l c.args.now (known_with c.self.inside.own recovering c.self.inside.leaves_for)) (lease_is c.self.invariant)
    ∙ ap (λ (v : MemberKept). next_free (delta_lease v) c.args.now v.state.known) c.self.view_is
