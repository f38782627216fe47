use Rattle.sl_host_state.specs.KeptState.{MemberState}
use Rattle.sl_member.proofs.MembersByNumber.{changed_kept, changed_members, has_number, none_kept, state_kept}
use Rattle.sl_member.proofs.members.Members.joins.Goals as goal
use Rattle.std.proofs.Common.{ap, position, refl, sym, true, ◌∙◌}

pub invariant_of-self : goal.invariant_of-self
invariant_of-self c =
    let i = c.self.invariant in (
      changed_members _ c.self.inside.room c.self.inside.items.items c.args.number c.in-Some.place (λ (s : MemberState). record s { joined = true }) c.index_mut.result.now _ i.0 (sym (c.place_of.ensures.exact ∙ ap (λ ms. position (has_number c.args.number) ms) c.deref.ensures.value) ∙ c.in-Some.is)
          c.index_mut.ensures.value (record { made = c.joins.ensures; who = λ s. refl }),
      i.1,
      i.2,
    )

pub returns-in-Some : goal.returns-in-Some
returns-in-Some c =
    changed_kept c.args.self.now _ c.self.inside.items.items c.self.inside.most c.self.inside.room c.args.number c.in-Some.place (λ (s : MemberState). record s { joined = true }) c.index_mut.result.now _
    c.self.invariant.0 (sym (c.place_of.ensures.exact ∙ ap (λ ms. position (has_number c.args.number) ms) c.deref.ensures.value) ∙ c.in-Some.is) c.index_mut.ensures.value c.joins.ensures c.self.view_is

pub returns-in-None : goal.returns-in-None
returns-in-None c =
    none_kept c.args.self.now _ c.self.inside.items.items c.self.inside.most c.self.inside.room c.args.number (λ (s : MemberState). record s { joined = true }) (sym (c.place_of.ensures.exact ∙ ap (λ ms. position (has_number c.args.number) ms) c.deref.ensures.value) ∙ c.in-None.is) c.self.view_is

pub joins-requires : goal.joins-requires
joins-requires c =
    c.requires c.index_mut.result.now.state
    (state_kept c.args.self.now _ c.self.inside.items.items c.self.inside.most c.self.inside.room c.args.number c.in-Some.place c.index_mut.result.now c.self.invariant.0
    (sym (c.place_of.ensures.exact ∙ ap (λ ms. position (has_number c.args.number) ms) c.deref.ensures.value) ∙ c.in-Some.is) c.index_mut.ensures.value c.self.view_is)
