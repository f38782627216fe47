use Rattle.sl_host_state.specs.KeptState.{MemberState}
use Rattle.sl_member.proofs.MembersByNumber.{has_number, nobody_kept, state_kept}
use Rattle.sl_member.proofs.members.Members.first_for.Goals as goal
use Rattle.sl_member.specs.Leases.{first_among}
use Rattle.std.proofs.Common.{Option, ap, option_and_then, position, sym, ◌∙◌}

pub returns-in-Some : goal.returns-in-Some
returns-in-Some c =
    c.first_for.ensures
    ∙ ap (λ (o : Option MemberState). option_and_then (λ s. first_among c.args.at.now c.args.step.now s.leases) o)
    (sym (state_kept c.args.self.now _ c.self.inside.items.items c.self.inside.most c.self.inside.room c.args.number c.in-Some.place c.index.result.now c.self.invariant.0
    (sym (c.place_of.ensures.exact ∙ ap (λ ms. position (has_number c.args.number) ms) c.deref.ensures.value) ∙ c.in-Some.is) c.index.ensures c.self.view_is))

pub returns-in-None : goal.returns-in-None
returns-in-None c =
    ap (λ (o : Option MemberState). option_and_then (λ s. first_among c.args.at.now c.args.step.now s.leases) o)
    (sym (nobody_kept c.args.self.now _ c.self.inside.items.items c.self.inside.most c.self.inside.room c.args.number
    (sym (c.place_of.ensures.exact ∙ ap (λ ms. position (has_number c.args.number) ms) c.deref.ensures.value) ∙ c.in-None.is) c.self.view_is))
