use Rattle.sl_member.proofs.MembersByNumber.{has_number, nobody_kept, state_kept}
use Rattle.sl_member.proofs.members.Members.numbered.Goals as goal
use Rattle.std.proofs.Common.{ap, position, sym, ◌∙◌}

pub returns-in-Some-clause-exact : goal.returns-in-Some-clause-exact
returns-in-Some-clause-exact c =
    sym (state_kept c.args.self.now _ c.self.inside.items.items c.self.inside.most c.self.inside.room c.args.number c.in-Some.place c.index.result.now c.self.invariant.0
    (sym (c.place_of.ensures.exact ∙ ap (λ ms. position (has_number c.args.number) ms) c.deref.ensures.value) ∙ c.in-Some.is) c.index.ensures c.self.view_is)

pub returns-in-None-clause-exact : goal.returns-in-None-clause-exact
returns-in-None-clause-exact c =
    sym (nobody_kept c.args.self.now _ c.self.inside.items.items c.self.inside.most c.self.inside.room c.args.number
    (sym (c.place_of.ensures.exact ∙ ap (λ ms. position (has_number c.args.number) ms) c.deref.ensures.value) ∙ c.in-None.is) c.self.view_is)
