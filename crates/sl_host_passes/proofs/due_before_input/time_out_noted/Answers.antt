use Rattle.sl_host_passes.proofs.RunsStay.{run_on, same_run}
use Rattle.sl_host_law.specs.Answers.RefusalsFollow.{timing_out}
use Rattle.sl_host_law.specs.StepParts.Signals.{over}
use Rattle.sl_host_law.specs.Steps.Passes.{at_job}
use Rattle.sl_host_state.specs.KeptState.{state_of}
use Rattle.sl_host_passes.proofs.due_before_input.time_out_noted.Goals as goal
use Rattle.sl_host_work.proofs.ListPasses.{fewer_left, over_end, over_next}
use Rattle.std.proofs.Common.{ap, arith, refl, sym, ◌≡◌, ◌∙◌}
use Rattle.std.specs.Prelude.{drop, length}

pub loop-place-init : goal.loop-place-init
loop-place-init c = record { comes = λ read. refl; run = same_run c.args.host.now; room = c.requires; spent = omega arith; calls = omega arith }

pub time_out-requires : goal.time_out-requires
time_out-requires c =
    let less = fewer_left c.args.numbers.now.items c.loop-place.place c.nth.result.now c.nth.ensures in omega (arith, less, c.loop-place.invariant.room)

pub loop-place-preserved : goal.loop-place-preserved
loop-place-preserved c =
    let was = c.loop-place.invariant in
    let done = c.time_out.ensures in
    let less = fewer_left c.args.numbers.now.items c.loop-place.place c.nth.result.now c.nth.ensures in
    record {
      comes = λ read. was.comes read ∙ over_next (λ n. at_job n timing_out) c.args.numbers.now.items c.loop-place.place c.nth.result.now (state_of read c.loop-place.host.kept) (state_of read c.time_out.new.host.kept) c.nth.ensures (done.state read);
      run = run_on c.args.host.now c.loop-place.host c.time_out.new.host was.run done.run;
      room = omega (arith, less, was.room, done.left.0);
      spent = omega (arith, less, was.room, was.spent, done.left.0);
      calls = omega (arith, was.calls, done.left.1);
    }

pub returns-clause-state : goal.returns-clause-state
returns-clause-state c read =
    let end : c.loop-place.place ≡ length c.args.numbers.now.items = omega (arith, c.len-place-end.ensures, c.loop-place-test.false, c.loop-place.auto.place-end) in
    sym (c.loop-place.invariant.comes read
    ∙ (ap (λ n. over (drop n c.args.numbers.now.items) (λ m. at_job m timing_out) (state_of read c.loop-place.host.kept)) end
    ∙ over_end (λ m. at_job m timing_out) c.args.numbers.now.items (state_of read c.loop-place.host.kept)))
