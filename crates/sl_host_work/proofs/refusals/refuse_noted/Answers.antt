use Rattle.sl_host_law.specs.StepParts.Signals.{over}
use Rattle.sl_host_state.specs.KeptState.{state_of}
use Rattle.sl_host_state.specs.MadeEffects.{with_reply}
use Rattle.sl_host_work.proofs.ListPasses.{fewer_left, over_end, over_next}
use Rattle.sl_host_work.proofs.refusals.refuse_noted.Goals as goal
use Rattle.sl_host_work.specs.RefusalReplies.{reply_of}
use Rattle.std.proofs.Common.{ap, arith, refl, sym, ◌≡◌, ◌∙◌}
use Rattle.std.specs.Prelude.{drop, length}

pub loop-place-init : goal.loop-place-init
loop-place-init c = record { comes = λ read. refl; run = (refl, refl, (refl, refl, refl)); room = c.requires; spent = omega arith; calls = omega arith }

pub reply-requires-in-loop-place-clause-left : goal.reply-requires-in-loop-place-clause-left
reply-requires-in-loop-place-clause-left c =
    let less = fewer_left c.args.numbers.now.items c.loop-place.place c.nth.result.now c.nth.ensures in omega (arith, less, c.loop-place.invariant.room)

pub loop-place-preserved : goal.loop-place-preserved
loop-place-preserved c =
    let was = c.loop-place.invariant in
    let done = c.reply-in-loop-place.ensures in
    let less = fewer_left c.args.numbers.now.items c.loop-place.place c.nth.result.now c.nth.ensures in
    record {
      comes = λ read. was.comes read ∙ over_next (λ n. with_reply n (reply_of c.args.refusal)) c.args.numbers.now.items c.loop-place.place c.nth.result.now (state_of read c.loop-place.host.kept) (state_of read c.reply-in-loop-place.new.self.kept) c.nth.ensures
          (done.state read ∙ ap (λ r. with_reply c.nth.result.now r (state_of read c.loop-place.host.kept)) c.reply.ensures.exact);
      run = (done.run.0 ∙ was.run.0, done.run.1 ∙ was.run.1, (done.run.2.0 ∙ was.run.2.0, done.run.2.1 ∙ was.run.2.1, done.run.2.2 ∙ was.run.2.2));
      room = omega (arith, less, was.room, done.left.0);
      spent = omega (arith, less, was.room, was.spent, done.left.0);
      calls = omega (arith, was.calls, done.left.1);
    }

pub returns-clause-state : goal.returns-clause-state
returns-clause-state c read =
    let end : c.loop-place.place ≡ length c.args.numbers.now.items = omega (arith, c.len-place-end.ensures, c.loop-place-test.false, c.loop-place.auto.place-end) in
    sym (c.loop-place.invariant.comes read
    ∙ (ap (λ n. over (drop n c.args.numbers.now.items) (λ m. with_reply m (reply_of c.args.refusal)) (state_of read c.loop-place.host.kept)) end
    ∙ over_end (λ m. with_reply m (reply_of c.args.refusal)) c.args.numbers.now.items (state_of read c.loop-place.host.kept)))
