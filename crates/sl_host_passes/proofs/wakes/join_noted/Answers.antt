use Rattle.sl_host_law.specs.Answers.WakingsFollow.{joining_by_time}
use Rattle.sl_host_law.specs.StepParts.Signals.{over}
use Rattle.sl_host_law.specs.Steps.Passes.{at_member}
use Rattle.sl_host_passes.proofs.PartsLessen.{at_one}
use Rattle.sl_host_passes.proofs.RunsStay.{run_on, same_run}
use Rattle.sl_host_passes.proofs.WakingLessens.{are_placed, by_joining, wake_known_less}
use Rattle.sl_host_passes.proofs.wakes.join_noted.Goals as goal
use Rattle.sl_host_state.specs.KeptState.{state_of}
use Rattle.sl_host_work.proofs.ListPasses.{fewer_left, over_end, over_next}
use Rattle.std.proofs.Common.{ap, arith, refl, sym, ◌≡◌, ◌∙◌}
use Rattle.std.specs.Prelude.{drop, length}

pub loop-place-init : goal.loop-place-init
loop-place-init c = record {
  comes = λ read. refl;
  run = same_run c.args.host.now;
  known = c.requires.known;
  room = c.requires.left;
  spent = omega arith;
  calls = c.requires.calls;
  called = omega arith;
}

pub join_by_time-requires-clause-left : goal.join_by_time-requires-clause-left
join_by_time-requires-clause-left c = let less = fewer_left c.args.members.now.items c.loop-place.place c.nth.result.now c.nth.ensures in omega (arith, less, c.loop-place.invariant.room)

pub join_by_time-requires-clause-calls : goal.join_by_time-requires-clause-calls
join_by_time-requires-clause-calls c = let less = fewer_left c.args.members.now.items c.loop-place.place c.nth.result.now c.nth.ensures in omega (arith, less, c.loop-place.invariant.calls)

pub join_by_time-requires-clause-placed : goal.join_by_time-requires-clause-placed
join_by_time-requires-clause-placed c = are_placed c.loop-place.host c.loop-place.invariant.known

pub join_by_time-requires-clause-moment : goal.join_by_time-requires-clause-moment
join_by_time-requires-clause-moment c = c.loop-place.invariant.known.now

pub loop-place-preserved : goal.loop-place-preserved
loop-place-preserved c =
    let was = c.loop-place.invariant in
    let done = c.join_by_time.ensures in
    let n = c.nth.result.now in
    let less = fewer_left c.args.members.now.items c.loop-place.place n c.nth.ensures in
    record {
      comes = λ read. was.comes read ∙ over_next (λ m. at_member m joining_by_time) c.args.members.now.items c.loop-place.place n (state_of read c.loop-place.host.kept) (state_of read c.join_by_time.new.host.kept) c.nth.ensures (done.state read);
      run = run_on c.args.host.now c.loop-place.host c.join_by_time.new.host was.run done.run;
      known = wake_known_less c.loop-place.host c.join_by_time.new.host (at_member n joining_by_time) (at_one joining_by_time by_joining n) done.state done.run was.known;
      room = omega (arith, less, was.room, done.left.0);
      spent = omega (arith, less, was.room, was.spent, done.left.0);
      calls = omega (arith, less, was.calls, done.left.1);
      called = omega (arith, less, was.calls, was.called, done.left.1);
    }

pub returns-clause-state : goal.returns-clause-state
returns-clause-state c read =
    let end : c.loop-place.place ≡ length c.args.members.now.items = omega (arith, c.len-place-end.ensures, c.loop-place-test.false, c.loop-place.auto.place-end) in
    sym (c.loop-place.invariant.comes read
    ∙ (ap (λ n. over (drop n c.args.members.now.items) (λ m. at_member m joining_by_time) (state_of read c.loop-place.host.kept)) end
    ∙ over_end (λ m. at_member m joining_by_time) c.args.members.now.items (state_of read c.loop-place.host.kept)))
