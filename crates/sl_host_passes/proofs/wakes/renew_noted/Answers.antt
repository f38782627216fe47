use Rattle.sl_host_law.specs.StepParts.Ends.{renewing_in}
use Rattle.sl_host_law.specs.StepParts.Signals.{over}
use Rattle.sl_host_law.specs.Steps.Passes.{at_member}
use Rattle.sl_host_passes.proofs.PartsLessen.{at_one}
use Rattle.sl_host_passes.proofs.RunsStay.{run_on, same_run}
use Rattle.sl_host_passes.proofs.WakingLessens.{are_placed, by_renewing, wake_known_less}
use Rattle.sl_host_passes.proofs.wakes.renew_noted.Goals as goal
use Rattle.sl_host_state.specs.KeptState.{state_of}
use Rattle.sl_host_work.proofs.ListPasses.{fewer_left, over_end, over_next}
use Rattle.std.proofs.Common.{ap, arith, refl, sym, ◌≡◌, ◌∙◌}
use Rattle.std.specs.Prelude.{drop, length}

pub loop-place-init : goal.loop-place-init
loop-place-init c = record {
  comes = λ read. refl;
  run = same_run c.args.host.now;
  known = c.requires.known;
  left = omega arith;
  calls = c.requires.calls;
  called = omega arith;
}

pub renew-requires-clause-calls : goal.renew-requires-clause-calls
renew-requires-clause-calls c = let less = fewer_left c.args.members.now.items c.loop-place.place c.nth.result.now c.nth.ensures in omega (arith, less, c.loop-place.invariant.calls)

pub renew-requires-clause-placed : goal.renew-requires-clause-placed
renew-requires-clause-placed c = are_placed c.loop-place.host c.loop-place.invariant.known

pub renew-requires-clause-moment : goal.renew-requires-clause-moment
renew-requires-clause-moment c = c.loop-place.invariant.known.now

pub loop-place-preserved : goal.loop-place-preserved
loop-place-preserved c =
    let was = c.loop-place.invariant in
    let done = c.renew.ensures in
    let n = c.nth.result.now in
    let less = fewer_left c.args.members.now.items c.loop-place.place n c.nth.ensures in
    record {
      comes = λ read. was.comes read ∙ over_next (λ m. at_member m renewing_in) c.args.members.now.items c.loop-place.place n (state_of read c.loop-place.host.kept) (state_of read c.renew.new.host.kept) c.nth.ensures (done.state read);
      run = run_on c.args.host.now c.loop-place.host c.renew.new.host was.run done.run;
      known = wake_known_less c.loop-place.host c.renew.new.host (at_member n renewing_in) (at_one renewing_in by_renewing n) done.state done.run was.known;
      left = omega (arith, was.left, done.left.0);
      calls = omega (arith, less, was.calls, done.left.1);
      called = omega (arith, less, was.calls, was.called, done.left.1);
    }

pub returns-clause-state : goal.returns-clause-state
returns-clause-state c read =
    let end : c.loop-place.place ≡ length c.args.members.now.items = omega (arith, c.len-place-end.ensures, c.loop-place-test.false, c.loop-place.auto.place-end) in
    sym (c.loop-place.invariant.comes read
    ∙ (ap (λ n. over (drop n c.args.members.now.items) (λ m. at_member m renewing_in) (state_of read c.loop-place.host.kept)) end
    ∙ over_end (λ m. at_member m renewing_in) c.args.members.now.items (state_of read c.loop-place.host.kept)))
