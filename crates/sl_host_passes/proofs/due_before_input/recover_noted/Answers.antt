use Rattle.sl_host_passes.proofs.RunsStay.{run_on, same_run}
use Rattle.sl_host_law.specs.StepParts.Recoveries.{recovering_in}
use Rattle.sl_host_law.specs.StepParts.Signals.{over}
use Rattle.sl_host_law.specs.Steps.Passes.{at_member}
use Rattle.sl_host_passes.proofs.LessIsLeft.{lessened}
use Rattle.sl_host_passes.proofs.PartsLessen.{at_one, by_recovering}
use Rattle.sl_host_passes.proofs.RefusedJobsGo.{recovered_few}
use Rattle.sl_host_passes.proofs.due_before_input.recover_noted.Goals as goal
use Rattle.sl_host_passes.specs.PassesLessen.{holders_among}
use Rattle.sl_host_state.specs.KeptState.{HostState, state_of}
use Rattle.sl_host_work.proofs.ListPasses.{drop_next, over_end, over_next}
use Rattle.sl_host_work.specs.KilledMembers.{count_under}
use Rattle.std.proofs.Common.{ap, arith, refl, sym, ◌≡◌, ◌∙◌}
use Rattle.std.specs.Prelude.{Err, drop, length}

pub loop-place-init : goal.loop-place-init
loop-place-init c = record { comes = λ read. refl; run = same_run c.args.host.now; held = refl; most = refl; jobs = c.requires.room; room = c.requires.left; spent = omega arith; calls = omega arith }

pub recover-requires-clause-left : goal.recover-requires-clause-left
recover-requires-clause-left c =
    let was = c.loop-place.invariant in
    let held = c.args.host.now.kept.holdings in
    let n = c.nth.result.now in
    let next = ap (λ zs. holders_among zs held) (drop_next c.args.members.now.items c.loop-place.place n c.nth.ensures) in
    let few = recovered_few c.loop-place.host.kept n in
    let count = ap (λ hs. count_under hs n) was.held in
    omega (arith, next, few, count, was.room)

pub loop-place-preserved : goal.loop-place-preserved
loop-place-preserved c =
    let was = c.loop-place.invariant in
    let done = c.recover.ensures in
    let held = c.args.host.now.kept.holdings in
    let n = c.nth.result.now in
    let next = ap (λ zs. holders_among zs held) (drop_next c.args.members.now.items c.loop-place.place n c.nth.ensures) in
    let few = recovered_few c.loop-place.host.kept n in
    let count = ap (λ hs. count_under hs n) was.held in
    let less = lessened c.loop-place.host c.recover.new.host (at_member n recovering_in) (at_one recovering_in by_recovering n) done.state in
    let left = ap (λ (h : HostState). length h.jobs) (done.state (λ text. Err 0)) in
    record {
      comes = λ read. was.comes read ∙ over_next (λ m. at_member m recovering_in) c.args.members.now.items c.loop-place.place n (state_of read c.loop-place.host.kept) (state_of read c.recover.new.host.kept) c.nth.ensures (done.state read);
      run = run_on c.args.host.now c.loop-place.host c.recover.new.host was.run done.run;
      held = less.holdings ∙ was.held;
      most = done.notes ∙ was.most;
      jobs = (let fewer = less.jobs in omega (arith, fewer, was.jobs));
      room = omega (arith, next, few, count, left, was.room, done.left.0);
      spent = omega (arith, next, few, count, left, was.room, was.spent, done.left.0);
      calls = omega (arith, was.calls, done.left.1);
    }

pub returns-clause-state : goal.returns-clause-state
returns-clause-state c read =
    let end : c.loop-place.place ≡ length c.args.members.now.items = omega (arith, c.len-place-end.ensures, c.loop-place-test.false, c.loop-place.auto.place-end) in
    sym (c.loop-place.invariant.comes read
    ∙ (ap (λ n. over (drop n c.args.members.now.items) (λ m. at_member m recovering_in) (state_of read c.loop-place.host.kept)) end
    ∙ over_end (λ m. at_member m recovering_in) c.args.members.now.items (state_of read c.loop-place.host.kept)))
