use Rattle.sl_host_law.proofs.SharedFacts.PlainLists.{got_below}
use Rattle.sl_host_law.specs.StepParts.Recoveries.{killing}
use Rattle.sl_host_law.specs.StepParts.Signals.{over}
use Rattle.sl_host_state.specs.KeptState.{MemberState, state_of}
use Rattle.sl_host_work.proofs.KillsStand.{all_next, at_place, count_at, killed_next}
use Rattle.sl_host_work.proofs.ListPasses.{over_end, there}
use Rattle.sl_host_work.proofs.recoveries.kill_all.Goals as goal
use Rattle.sl_host.specs.Host.{HostView}
use Rattle.std.proofs.Common.{ap, arith, refl, sym, ◌∙◌}
use Rattle.std.specs.Prelude.{List, Some, drop, length, slice_get, ℕ, ◌<◌, ◌≡◌}

pub loop-place-init : goal.loop-place-init
loop-place-init c = record { comes = λ read. refl; stays = (refl, refl, refl); run = (refl, refl, (refl, refl, refl)); room = c.requires; spent = omega arith; calls = omega arith }

-- the member at the loop's place
member_here : (first : HostView) (ms : List MemberState) (k end : ℕ) → end ≡ length ms → ms ≡ first.kept.members → k < end → (m : MemberState) × (slice_get first.kept.members k ≡ Some m)
member_here first ms k end count same less =
    let all : length ms ≡ length first.kept.members = ap (λ (zs : List MemberState). length zs) same in there first.kept.members k (omega (arith, less, count, all))

pub kill_at-requires : goal.kill_at-requires
kill_at-requires c =
    let first = c.args.host.now in
    let was = c.loop-place.invariant in
    let at = member_here first c.members.result.now.members c.loop-place.place c.len-place-end.result c.len-place-end.ensures c.members.ensures.members c.loop-place-test.true in
    let next = all_next first.kept.members first.kept.holdings c.loop-place.place at.0 at.1 in
    let count = count_at first c.loop-place.host c.loop-place.place at.0 was.stays at.1 in
    record {
      place = got_below c.loop-place.host.kept.members c.loop-place.place at.0 (at_place first c.loop-place.host c.loop-place.place at.0 was.stays.2 at.1);
      left = omega (arith, next, count, was.room);
    }

pub loop-place-preserved : goal.loop-place-preserved
loop-place-preserved c =
    let first = c.args.host.now in
    let was = c.loop-place.invariant in
    let done = c.kill_at.ensures in
    let at = member_here first c.members.result.now.members c.loop-place.place c.len-place-end.result c.len-place-end.ensures c.members.ensures.members c.loop-place-test.true in
    let next = all_next first.kept.members first.kept.holdings c.loop-place.place at.0 at.1 in
    let count = count_at first c.loop-place.host c.loop-place.place at.0 was.stays at.1 in
    record {
      comes = λ read. was.comes read ∙ killed_next read first c.loop-place.host c.kill_at.new.host c.loop-place.place at.0 was.stays at.1 done.state;
      stays = (done.stays.0 ∙ was.stays.0, done.stays.1 ∙ was.stays.1, done.stays.2 ∙ was.stays.2);
      run = (done.run.0 ∙ was.run.0, done.run.1 ∙ was.run.1, (done.run.2.0 ∙ was.run.2.0, done.run.2.1 ∙ was.run.2.1, done.run.2.2 ∙ was.run.2.2));
      room = omega (arith, next, count, was.room, done.left.0);
      spent = omega (arith, next, count, was.spent, was.room, done.left.0);
      calls = omega (arith, was.calls, done.left.1);
    }

pub returns-clause-state : goal.returns-clause-state
returns-clause-state c read =
    let first = c.args.host.now in
    let all : length c.members.result.now.members ≡ length first.kept.members = ap (λ (zs : List MemberState). length zs) c.members.ensures.members in
    let end : c.loop-place.place ≡ length first.kept.members = omega (arith, all, c.len-place-end.ensures, c.loop-place-test.false, c.loop-place.auto.place-end) in
    sym (c.loop-place.invariant.comes read
    ∙ (ap (λ n. over (drop n first.kept.members) killing (state_of read c.loop-place.host.kept)) end
    ∙ over_end killing first.kept.members (state_of read c.loop-place.host.kept)))
