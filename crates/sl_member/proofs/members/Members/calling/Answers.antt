use Rattle.sl_area.specs.AreaSizes.{layout_of}
use Rattle.sl_member.proofs.CalledMembers.{called_kept, called_members, nobody_called, one_item, room_at}
use Rattle.sl_member.proofs.MembersByNumber.{has_number}
use Rattle.sl_member.proofs.members.Members.calling.Goals as goal
use Rattle.sl_member.specs.Leases.{begins_lease}
use Rattle.sl_member.specs.Members.{MemberKept}
use Rattle.sl_trace.specs.Traces.{new_call}
use Rattle.std.proofs.Common.{ap, position, sym, ◌∙◌}

pub calling-requires-clause-room : goal.calling-requires-clause-room
calling-requires-clause-room c begins =
    (room_at c.args.self.now _ c.self.inside.items.items c.self.inside.most c.self.inside.room c.in-Some.place (new_call 0 c.args.now c.args.call.now) c.index_mut.result.now
    c.self.invariant.0 (sym (c.place_of.ensures.exact ∙ ap (λ ms. position (has_number c.args.call.now.session) ms) c.deref.ensures.value) ∙ c.in-Some.is) c.index_mut.ensures.value c.self.view_is c.requires.room begins).1

pub left-self-inside-requires : goal.left-self-inside-requires
left-self-inside-requires c begins =
    (room_at c.args.self.now _ c.self.inside.items.items c.self.inside.most c.self.inside.room c.in-Some.place (new_call 0 c.args.now c.args.call.now) c.index.result.now
    c.self.invariant.0 (sym (c.place_of.ensures.exact ∙ ap (λ ms. position (has_number c.args.call.now.session) ms) c.deref.ensures.value) ∙ c.in-Some.is) c.index.ensures c.self.view_is c.requires.room (sym c.begins_lease-begins.ensures ∙ begins)).0

pub invariant_of-self : goal.invariant_of-self
invariant_of-self c =
    let i = c.self.invariant in (
      called_members _ c.self.inside.room c.left-self-inside.result c.self.inside.items.items c.in-Some.place (new_call 0 c.args.now c.args.call.now) c.index_mut.result.now _
          c.begins_lease-begins.result i.0 (sym (c.place_of.ensures.exact ∙ ap (λ ms. position (has_number c.args.call.now.session) ms) c.deref.ensures.value) ∙ c.in-Some.is) c.index_mut.ensures.value (c.calling.ensures 0) (c.begins_lease-begins.ensures
          ∙ ap (λ (z : MemberKept). begins_lease (layout_of z.run.sizes) (new_call 0 0 c.args.call.now) z.state.leases)
          (one_item c.args.call.now.session c.self.inside.items.items c.in-Some.place c.index.result.now c.index_mut.result.now (sym (c.place_of.ensures.exact ∙ ap (λ ms. position (has_number c.args.call.now.session) ms) c.deref.ensures.value) ∙ c.in-Some.is) c.index.ensures c.index_mut.ensures.value)) c.left-self-inside.ensures,
      i.1,
      i.2,
    )

pub returns-in-Some : goal.returns-in-Some
returns-in-Some c at =
    called_kept c.args.self.now _ c.self.inside.items.items c.self.inside.most c.self.inside.room c.left-self-inside.result c.in-Some.place
    (new_call at c.args.now c.args.call.now) c.index_mut.result.now _ c.begins_lease-begins.result c.self.invariant.0 (sym (c.place_of.ensures.exact ∙ ap (λ ms. position (has_number c.args.call.now.session) ms) c.deref.ensures.value) ∙ c.in-Some.is) c.index_mut.ensures.value (c.calling.ensures at) (c.begins_lease-begins.ensures
    ∙ ap (λ (z : MemberKept). begins_lease (layout_of z.run.sizes) (new_call 0 0 c.args.call.now) z.state.leases)
    (one_item c.args.call.now.session c.self.inside.items.items c.in-Some.place c.index.result.now c.index_mut.result.now (sym (c.place_of.ensures.exact ∙ ap (λ ms. position (has_number c.args.call.now.session) ms) c.deref.ensures.value) ∙ c.in-Some.is) c.index.ensures c.index_mut.ensures.value))
    c.left-self-inside.ensures c.self.view_is

pub returns-in-None : goal.returns-in-None
returns-in-None c at =
    nobody_called c.args.self.now _ c.self.inside.items.items c.self.inside.most c.self.inside.room (new_call at c.args.now c.args.call.now) (sym (c.place_of.ensures.exact ∙ ap (λ ms. position (has_number c.args.call.now.session) ms) c.deref.ensures.value) ∙ c.in-None.is) c.self.view_is
