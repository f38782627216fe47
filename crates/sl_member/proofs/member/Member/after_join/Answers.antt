use Rattle.sl_delta.specs.DeltaDecisions.{after_join}
use Rattle.sl_delta.specs.OwnSector.{answer_in}
use Rattle.sl_member.proofs.MemberParts.{own_is}
use Rattle.sl_member.proofs.member.Member.after_join.Goals as goal
use Rattle.sl_member.specs.Members.{MemberKept, own_of}
use Rattle.std.proofs.Common.{ap, ◌∙◌}

pub returns-clause-exact : goal.returns-clause-exact
returns-clause-exact c =
    c.after_join.ensures.exact ∙ ap (λ o. after_join o c.args.now c.args.call c.args.made c.args.step (answer_in c.args.answer.now)) (own_is c.self.invariant)
    ∙ ap (λ (v : MemberKept). after_join (own_of v) c.args.now c.args.call c.args.made c.args.step (answer_in c.args.answer.now)) c.self.view_is
