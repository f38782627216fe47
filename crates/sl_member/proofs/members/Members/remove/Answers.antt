use Rattle.sl_host_state.specs.KeptState.{MemberState}
use Rattle.sl_member.proofs.MembersTogether.{kept_kept, kept_members}
use Rattle.sl_member.proofs.members.Members.remove.Goals as goal
use Rattle.sl_member.specs.Members.{MemberKept}
use Rattle.std.proofs.Common.{Bool, arith, filter, not, rules, ◌==◌, ◌≡◌}
use Rattle.std.proofs.lemmas.Fn.{filter_same}

pub invariant_of-self : goal.invariant_of-self
invariant_of-self c =
    let q : MemberState → Bool = (λ s. not (c.args.number == s.who.number)) in
    let i = c.self.invariant in
    let is : c.retain.new.self.items ≡ filter (λ (m : MemberKept). q m.state) c.self.inside.items.items =
    filter_same _ (λ (m : MemberKept). q m.state) _ (λ x b f' k. search rules) _ _ c.retain.ensures.filtered
    in
    (kept_members _ c.self.inside.room c.self.inside.items.items _ (λ m. q m.state) i.0 is, omega (arith, i.1, c.retain.ensures.bound), omega (arith, i.2, c.retain.ensures.capacity))

pub returns : goal.returns
returns c =
    let q : MemberState → Bool = (λ s. not (c.args.number == s.who.number)) in
    let is : c.retain.new.self.items ≡ filter (λ (m : MemberKept). q m.state) c.self.inside.items.items =
    filter_same _ (λ (m : MemberKept). q m.state) _ (λ x b f' k. search rules) _ _ c.retain.ensures.filtered
    in
    kept_kept c.args.self.now _ c.self.inside.items.items _ c.self.inside.most c.self.inside.room q is c.self.view_is
