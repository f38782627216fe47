use Rattle.sl_host_passes.proofs.session_finish.last_of.Goals as goal
use Rattle.sl_host_state.specs.KeptState.{MemberState}
use Rattle.sl_host_work.specs.SectorPlaces.{IsPlaced}
use Rattle.sl_member.specs.HostMembers.{member_with}
use Rattle.sl_words.proofs.Lists.{find_inside}
use Rattle.std.proofs.Common.{ap, subst, sym, ◌∙◌}
use Rattle.std.specs.Prelude.{Contains, List, Some, ℕ, ◌==◌, ◌≡◌}

-- the member that was looked up is there
found_there : (n : ℕ) (given ms : List MemberState) (m : MemberState) → Some m ≡ member_with n given → given ≡ ms → Contains ms m
found_there n given ms m found same = (find_inside (λ (s : MemberState). s.who.number == n) ms m (sym (found ∙ ap (λ zs. member_with n zs) same))).0

pub member_last-requires-clause-left : goal.member_last-requires-clause-left
member_last-requires-clause-left c j joined leaving freed =
    c.requires.left c.in-Some.member.now.state j (found_there c.args.number c.members.result.now.members c.args.host.now.kept.members c.in-Some.member.now.state c.in-Some.ensures.exact c.members.ensures.members) joined
    leaving freed

pub returns-in-Some-clause-fit : goal.returns-in-Some-clause-fit
returns-in-Some-clause-fit c =
    let there = found_there c.args.number c.members.result.now.members c.args.host.now.kept.members c.in-Some.member.now.state c.in-Some.ensures.exact c.members.ensures.members in
    (c.member_last.ensures.last.0, c.member_last.ensures.last.1, subst (IsPlaced c.args.host.now.kept.config.sizes) (sym c.who.ensures) (c.requires.placed c.in-Some.member.now.state there))
