use Rattle.sl_host_answers.proofs.surveys.note_spots.Goals as goal
use Rattle.sl_host_answers.specs.Surveys.{leases_of, spots_of}
use Rattle.sl_host_state.specs.KeptState.{LeaseState, MemberState}
use Rattle.sl_member.specs.HostMembers.{member_with}
use Rattle.std.proofs.Common.{ap, arith, sym, ◌∙◌}
use Rattle.std.proofs.lemmas.List.{length-map}
use Rattle.std.specs.Prelude.{List, Some, length, map, ◌≡◌}

pub note_areas-requires : goal.note_areas-requires
note_areas-requires c =
    let k = c.args.host.now.kept in
    let m : MemberState = c.in-Some.member.now.state in
    let at : Some m ≡ member_with c.args.number k.members = c.in-Some.ensures.exact ∙ ap (member_with c.args.number) c.members.ensures.members in
    let its : length c.leases.result.now.leases ≡ length m.leases = ap (λ l. length l.leases) c.leases.ensures in
    let count : length m.leases ≡ leases_of c.args.number k = sym (length-map m.leases (λ (l : LeaseState). l.spot)) ∙ ap (λ o. length (spots_of o)) at in
    omega (arith, its, count, c.requires)

pub returns-in-Some : goal.returns-in-Some
returns-in-Some c =
    let k = c.args.host.now.kept in
    let m : MemberState = c.in-Some.member.now.state in
    let at : Some m ≡ member_with c.args.number k.members = c.in-Some.ensures.exact ∙ ap (member_with c.args.number) c.members.ensures.members in
    c.note_areas.ensures
    ∙ (ap (λ (ls : List LeaseState). record c.args.spots.now { items = map (λ (l : LeaseState). l.spot) ls }) (ap (λ l. l.leases) c.leases.ensures)
    ∙ ap (λ o. record c.args.spots.now { items = spots_of o }) at)
