use Rattle.sl_host_law.specs.StepParts.Signals.{over}
use Rattle.sl_host_law.specs.Steps.Passes.{at_member}
use Rattle.sl_host_law.specs.Steps.WakePasses.{settling_all}
use Rattle.sl_host_passes.proofs.RunsStay.{run_on, same_run}
use Rattle.sl_host_passes.proofs.Spots.{found_few}
use Rattle.sl_host_passes.proofs.wakes.settle_members.Goals as goal
use Rattle.sl_host_passes.specs.PassesLessen.{leases_among}
use Rattle.sl_host_state.specs.KeptState.{state_of}
use Rattle.sl_host_work.proofs.ListPasses.{drop_next, over_end, over_next}
use Rattle.std.proofs.Common.{ap, arith, refl, sym, ◌≡◌, ◌∙◌}
use Rattle.std.specs.Prelude.{drop, length}

pub loop-place-init : goal.loop-place-init
loop-place-init c = record {
  comes = λ read. refl;
  run = same_run c.args.host.now;
  known = c.requires.known;
  same = λ n. refl;
  most = refl;
  room = c.requires.left;
  spent = omega arith;
  calls = c.requires.calls;
  called = omega arith;
}

pub settle_member-requires-clause-room : goal.settle_member-requires-clause-room
settle_member-requires-clause-room c =
    let was = c.loop-place.invariant in
    let same = was.same c.nth.result.now in
    let few = found_few c.nth.result.now c.args.host.now.kept.members in
    omega (arith, same, few, was.most, c.requires.room)

pub settle_member-requires-clause-left : goal.settle_member-requires-clause-left
settle_member-requires-clause-left c =
    let was = c.loop-place.invariant in
    let same = was.same c.nth.result.now in
    let next = ap (λ ns. leases_among ns c.args.host.now.kept.members) (drop_next c.args.members.now.items c.loop-place.place c.nth.result.now c.nth.ensures) in
    omega (arith, same, next, was.room)

pub settle_member-requires-clause-calls : goal.settle_member-requires-clause-calls
settle_member-requires-clause-calls c =
    let was = c.loop-place.invariant in
    let same = was.same c.nth.result.now in
    let next = ap (λ ns. leases_among ns c.args.host.now.kept.members) (drop_next c.args.members.now.items c.loop-place.place c.nth.result.now c.nth.ensures) in
    omega (arith, same, next, was.calls)

pub loop-place-preserved : goal.loop-place-preserved
loop-place-preserved c =
    let was = c.loop-place.invariant in
    let done = c.settle_member.ensures in
    let n = c.nth.result.now in
    let same = was.same n in
    let next = ap (λ ns. leases_among ns c.args.host.now.kept.members) (drop_next c.args.members.now.items c.loop-place.place n c.nth.ensures) in
    record {
      comes = λ read. was.comes read ∙ over_next (λ m. at_member m settling_all) c.args.members.now.items c.loop-place.place n (state_of read c.loop-place.host.kept) (state_of read c.settle_member.new.host.kept) c.nth.ensures (done.state read);
      run = run_on c.args.host.now c.loop-place.host c.settle_member.new.host was.run done.run;
      known = done.known;
      same = λ k. done.leases k ∙ was.same k;
      most = done.spots ∙ was.most;
      room = omega (arith, same, next, was.room, done.left.0);
      spent = omega (arith, same, next, was.room, was.spent, done.left.0);
      calls = omega (arith, same, next, was.calls, done.left.1);
      called = omega (arith, same, next, was.calls, was.called, done.left.1);
    }

pub returns-clause-state : goal.returns-clause-state
returns-clause-state c read =
    let end : c.loop-place.place ≡ length c.args.members.now.items = omega (arith, c.len-place-end.ensures, c.loop-place-test.false, c.loop-place.auto.place-end) in
    sym (c.loop-place.invariant.comes read
    ∙ (ap (λ k. over (drop k c.args.members.now.items) (λ m. at_member m settling_all) (state_of read c.loop-place.host.kept)) end
    ∙ over_end (λ m. at_member m settling_all) c.args.members.now.items (state_of read c.loop-place.host.kept)))
