use Rattle.sl_host_state.specs.KeptState.{HostKept}
use Rattle.sl_host_step.proofs.step.start.Goals as goal
use Rattle.sl_host_step.proofs.RoomsStand.{far_still, left_for_input}
use Rattle.sl_host_step.specs.Moments.{AtInput, StepComes}
use Rattle.sl_host_step.specs.StepMemory.{HasLeft}
use Rattle.sl_host_step.specs.declared.step_memory.Reach.{Reach}
use Rattle.std.proofs.Common.{ap, subst, sym}
use Rattle.std.specs.Prelude.{nat_le}

pub returns-clause-at : goal.returns-clause-at
returns-clause-at c i comes =
    let same = c.in_ok-room.ensures.ok.0.kept in
    let n = c.args.now in
    subst (λ (k : HostKept). AtInput n i k c.begin.new.host.kept) same (c.begin.ensures.at i (subst (λ (k : HostKept). StepComes n i k) (sym same) comes))

pub begin-requires-clause-room : goal.begin-requires-clause-room
begin-requires-clause-room c =
    let first = c.args.host.now in
    let now = c.args.now in
    let room = c.in_ok-room.ensures.ok.0 in
    let loud = nat_le c.quiet_until.result now in
    (c.at.result, first, room, far_still now first c.room.new.host loud c.args.reach c.at.result room.kept (ap (λ q. nat_le q now) c.quiet_until.ensures) c.at.ensures)

pub returns-clause-left : goal.returns-clause-left
returns-clause-left c =
    let first = c.args.host.now in
    let now = c.args.now in
    let room = c.in_ok-room.ensures.ok.0 in
    let loud = nat_le c.quiet_until.result now in
    let far = far_still now first c.room.new.host loud c.args.reach c.at.result room.kept (ap (λ q. nat_le q now) c.quiet_until.ensures) c.at.ensures in
    let left = c.begin.ensures.left c.at.result first room far in (
      left_for_input loud c.args.reach first c.begin.new.host (subst (λ (r : Reach). HasLeft r first c.begin.new.host) c.at.ensures left),
      c.begin.ensures.lists,
    )
