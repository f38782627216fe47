use Rattle.sl_member.proofs.MemberParts.{told_member}
use Rattle.sl_member.proofs.member.Member.own_answered.Goals as goal
use Rattle.sl_trace.specs.declared.input.Answer.TheVariants.{Written}

pub invariant_of-self : goal.invariant_of-self
invariant_of-self c = told_member c.args.purpose.now Written c.args.now _ c.self.invariant (c.answered.ensures.state Written)
