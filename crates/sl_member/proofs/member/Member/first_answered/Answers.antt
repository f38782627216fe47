use Rattle.sl_delta.specs.OwnSector.{OwnState, answer_in}
use Rattle.sl_member.proofs.MemberParts.{told_member}
use Rattle.sl_member.proofs.member.Member.first_answered.Goals as goal
use Rattle.sl_member.specs.Members.{MemberKept, own_told}
use Rattle.sl_member.specs.contracts.member.Member.{the_view}
use Rattle.sl_member.specs.declared.member.Member.TheInside.{Inside}
use Rattle.sl_trace.specs.declared.effects.JoinStep.TheVariants.{FirstRead}
use Rattle.sl_trace.specs.declared.effects.Purpose.TheVariants.{Joining}
use Rattle.std.proofs.Common.{ap, ◌∙◌}

pub invariant_of-self : goal.invariant_of-self
invariant_of-self c = told_member (Joining 0 FirstRead) (answer_in c.args.answer) c.args.now _ c.self.invariant (c.first_answered.ensures.state 0)

pub returns : goal.returns
returns c j =
    let fields : Inside = c.self.inside in
    let with_own : OwnState → Inside = λ o. record fields { own = o } in
    ap (λ (o : OwnState). the_view (with_own o)) (c.first_answered.ensures.state j)
    ∙ ap (λ (v : MemberKept). record v { state = own_told (Joining j FirstRead) (answer_in c.args.answer) c.args.now v.state }) c.self.view_is
