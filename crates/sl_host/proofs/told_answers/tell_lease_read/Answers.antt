use Rattle.sl_area.specs.AreaSizes.{Sizes, layout_of}
use Rattle.sl_area.specs.Pairs.{pairs_kept}
use Rattle.sl_host.proofs.AnswersTold.{again_paired}
use Rattle.sl_host.proofs.told_answers.tell_lease_read.Goals as goal
use Rattle.sl_lease.specs.Reads.{HasRead}
use Rattle.sl_member.specs.Leases.{kept_shown, read_shown}
use Rattle.sl_member.specs.Members.{lease_changed}
use Rattle.sl_member.specs.HostMembers.{MembersState, changed_member, side_with}
use Rattle.sl_trace.specs.LeaseDecisions.{first_step, part_read}
use Rattle.std.proofs.Common.{subst, sym, ◌∙◌, ◌≡◌}

pub returns-then-again-clause-members : goal.returns-then-again-clause-members
returns-then-again-clause-members g c =
    let v : MembersState = c.args.members.now in
    let bytes = g.S.Sectors.bytes c.args.sectors.now in
    let step = c.args.step.now in
    let z : Sizes = c.geometry-geometry.result in
    let same : z ≡ v.run.sizes = c.geometry-geometry.ensures in
    let turn = c.turn_shown-turn.ensures.exact bytes (subst (λ (y : Sizes). HasRead y (part_read (layout_of y) bytes (first_step step)) c.read-again.new.self) same c.read-again.ensures.has) in
    let paired = again_paired z step bytes (sym c.read-again.ensures.again ∙ c.if-again.true) in
    c.tell_first.ensures.members (pairs_kept (layout_of z) (part_read (layout_of z) bytes (first_step step))) (c.read-again.ensures.kept paired)
    ∙ (λ i. record v {
      members = changed_member c.args.session (lease_changed c.args.at.now (kept_shown (turn i) (pairs_kept (layout_of (same i)) (part_read (layout_of (same i)) bytes (first_step step))))) v.members;
    })

pub returns-clause-members : goal.returns-clause-members
returns-clause-members g c =
    let v : MembersState = c.args.members.now in
    let bytes = g.S.Sectors.bytes c.args.sectors.now in
    let step = c.args.step.now in
    let z : Sizes = c.geometry-geometry.result in
    let same : z ≡ v.run.sizes = c.geometry-geometry.ensures in
    let turn = c.turn_shown-turn.ensures.exact bytes (subst (λ (y : Sizes). HasRead y (part_read (layout_of y) bytes (first_step step)) c.read-again.new.self) same c.read-again.ensures.has) in
    let blocks = c.as_slice.ensures.exact in
    c.lease_read.ensures
    ∙ (λ i. record v { members = changed_member c.args.session (λ s. lease_changed c.args.at.now (read_shown (side_with v.run s) (turn i) c.args.heeded c.gather-leader.result (blocks i)) s) v.members })
