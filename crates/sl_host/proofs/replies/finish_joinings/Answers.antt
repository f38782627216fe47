use Rattle.sl_host_state.specs.KeptState.{MemberState}
use Rattle.sl_member.specs.HostMembers.{MembersState}
use Rattle.sl_host.proofs.RepliesStand.{answered_more, claims_stay, is_joined, joined_at, none_answered, none_found}
use Rattle.sl_host.proofs.replies.finish_joinings.Goals as goal
use Rattle.std.proofs.Common.{List, [], ap, true, ◌∷◌, ◌∙◌}

abbrev one : MemberState → List MemberState
one s = record s { joined = true } ∷ []

pub loop-number-smaller : goal.loop-number-smaller
loop-number-smaller c =
    (answered_more one c.args.job c.in-Some.number c.loop-number.members.members c.joins.new.self.members (is_joined c.args.job) c.in-Some.ensures.apart c.in-Some.ensures.found
    (ap (λ (v : MembersState). v.members) c.joins.ensures ∙ joined_at c.in-Some.number c.loop-number.members.members)).1

pub loop-number-preserved : goal.loop-number-preserved
loop-number-preserved c =
    let made = ap (λ (v : MembersState). v.members) c.joins.ensures in
    let more = (answered_more one c.args.job c.in-Some.number c.loop-number.members.members c.joins.new.self.members (is_joined c.args.job) c.in-Some.ensures.apart c.in-Some.ensures.found
    (made ∙ joined_at c.in-Some.number c.loop-number.members.members)).0 in (
      more ∙ c.loop-number.invariant.0,
      ap (λ (v : MembersState). v.run) c.joins.ensures ∙ c.loop-number.invariant.1,
      ap (λ (v : MembersState). v.room) c.joins.ensures ∙ c.loop-number.invariant.2,
      ap (λ (v : MembersState). v.most) c.joins.ensures ∙ c.loop-number.invariant.3,
      claims_stay c.args.job c.in-Some.number c.loop-number.members.members c.joins.new.self.members c.loop-number.invariant.4 made,
    )

pub returns-clause-members : goal.returns-clause-members
returns-clause-members c =
    none_answered one c.args.job (is_joined c.args.job) c.loop-number.members.members (none_found c.args.job c.loop-number.members.members c.in_default.ensures.found)
    ∙ c.loop-number.invariant.0
