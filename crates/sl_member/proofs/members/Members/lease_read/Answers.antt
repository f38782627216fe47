use Rattle.sl_member.proofs.MembersByNumber.{changed_kept, changed_members, has_number, none_kept, run_kept}
use Rattle.sl_member.proofs.members.Members.lease_read.Goals as goal
use Rattle.sl_member.specs.Leases.{read_shown}
use Rattle.sl_member.specs.Members.{MemberKept, RunOf, lease_changed}
use Rattle.sl_member.specs.HostMembers.{side_with}
use Rattle.std.proofs.Common.{ap, position, refl, sym, ◌∙◌}

pub invariant_of-self : goal.invariant_of-self
invariant_of-self c =
    let x : MemberKept = c.index_mut.result.now in
    let i = c.self.invariant in (
      changed_members _ c.self.inside.room c.self.inside.items.items c.args.number c.in-Some.place (λ s. lease_changed c.args.at.now (read_shown (side_with c.args.self.now.run s) c.args.turn c.args.heeded c.args.leader.now c.args.blocks.now) s) c.index_mut.result.now _ i.0 (sym (c.place_of.ensures.exact ∙ ap (λ ms. position (has_number c.args.number) ms) c.deref.ensures.value) ∙ c.in-Some.is)
          c.index_mut.ensures.value (record {
            made = (c.lease_read.ensures
                ∙ ap (λ (r : RunOf). record x { state = lease_changed c.args.at.now (read_shown (side_with r c.index_mut.result.now.state) c.args.turn c.args.heeded c.args.leader.now c.args.blocks.now) c.index_mut.result.now.state })
                (run_kept c.args.self.now _ c.self.inside.items.items c.self.inside.most c.self.inside.room c.args.number c.in-Some.place x c.self.invariant.0
                (sym (c.place_of.ensures.exact ∙ ap (λ ms. position (has_number c.args.number) ms) c.deref.ensures.value) ∙ c.in-Some.is) c.index_mut.ensures.value c.self.view_is));
            who = λ s. refl;
          }),
      i.1,
      i.2,
    )

pub returns-in-Some : goal.returns-in-Some
returns-in-Some c =
    let x : MemberKept = c.index_mut.result.now in
    changed_kept c.args.self.now _ c.self.inside.items.items c.self.inside.most c.self.inside.room c.args.number c.in-Some.place (λ s. lease_changed c.args.at.now (read_shown (side_with c.args.self.now.run s) c.args.turn c.args.heeded c.args.leader.now c.args.blocks.now) s) c.index_mut.result.now _
    c.self.invariant.0 (sym (c.place_of.ensures.exact ∙ ap (λ ms. position (has_number c.args.number) ms) c.deref.ensures.value) ∙ c.in-Some.is) c.index_mut.ensures.value (c.lease_read.ensures
    ∙ ap (λ (r : RunOf). record x { state = lease_changed c.args.at.now (read_shown (side_with r c.index_mut.result.now.state) c.args.turn c.args.heeded c.args.leader.now c.args.blocks.now) c.index_mut.result.now.state })
    (run_kept c.args.self.now _ c.self.inside.items.items c.self.inside.most c.self.inside.room c.args.number c.in-Some.place x c.self.invariant.0
    (sym (c.place_of.ensures.exact ∙ ap (λ ms. position (has_number c.args.number) ms) c.deref.ensures.value) ∙ c.in-Some.is) c.index_mut.ensures.value c.self.view_is)) c.self.view_is

pub returns-in-None : goal.returns-in-None
returns-in-None c =
    none_kept c.args.self.now _ c.self.inside.items.items c.self.inside.most c.self.inside.room c.args.number (λ s. lease_changed c.args.at.now (read_shown (side_with c.args.self.now.run s) c.args.turn c.args.heeded c.args.leader.now c.args.blocks.now) s) (sym (c.place_of.ensures.exact ∙ ap (λ ms. position (has_number c.args.number) ms) c.deref.ensures.value) ∙ c.in-None.is) c.self.view_is
