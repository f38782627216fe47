use Rattle.sl_host_answers.proofs.SurveysStand.{known_still}
use Rattle.sl_host_answers.proofs.surveys.read_requests.Goals as goal
use Rattle.sl_host_law.specs.Answers.Surveys.{reading_request_on}
use Rattle.sl_host_law.specs.StepParts.Signals.{over}
use Rattle.sl_host_state.specs.KeptState.{state_of}
use Rattle.sl_host_work.proofs.ListPasses.{fewer_left, over_end, over_next}
use Rattle.std.proofs.Common.{ap, arith, refl, sym, ◌≡◌, ◌∙◌}
use Rattle.std.specs.Prelude.{drop, length}

pub loop-place-init : goal.loop-place-init
loop-place-init c = record { comes = λ read. refl; run = (refl, refl, (refl, refl, refl)); stays = refl; room = c.requires.calls; spent = omega arith; others = omega arith }

pub read_request_on-requires : goal.read_request_on-requires
read_request_on-requires c =
    let was = c.loop-place.invariant in
    let less = fewer_left c.args.spots.now.items c.loop-place.place c.nth.result.now c.nth.ensures in
    record { calls = omega (arith, less, was.room); known = known_still c.args.host.now.kept c.loop-place.host.kept was.run.0 was.run.1 was.stays c.requires.known }

pub loop-place-preserved : goal.loop-place-preserved
loop-place-preserved c =
    let was = c.loop-place.invariant in
    let done = c.read_request_on.ensures in
    let less = fewer_left c.args.spots.now.items c.loop-place.place c.nth.result.now c.nth.ensures in
    record {
      comes = λ read. was.comes read ∙ over_next (reading_request_on c.args.who.now) c.args.spots.now.items c.loop-place.place c.nth.result.now (state_of read c.loop-place.host.kept) (state_of read c.read_request_on.new.host.kept) c.nth.ensures (done.state read);
      run = (done.run.0 ∙ was.run.0, done.run.1 ∙ was.run.1, (done.run.2.0 ∙ was.run.2.0, done.run.2.1 ∙ was.run.2.1, done.run.2.2 ∙ was.run.2.2));
      stays = done.stays ∙ was.stays;
      room = omega (arith, less, was.room, done.left.1);
      spent = omega (arith, less, was.room, was.spent, done.left.1);
      others = omega (arith, was.others, done.left.0);
    }

pub returns-clause-state : goal.returns-clause-state
returns-clause-state c read =
    let end : c.loop-place.place ≡ length c.args.spots.now.items = omega (arith, c.len-place-end.ensures, c.loop-place-test.false, c.loop-place.auto.place-end) in
    sym (c.loop-place.invariant.comes read
    ∙ (ap (λ n. over (drop n c.args.spots.now.items) (reading_request_on c.args.who.now) (state_of read c.loop-place.host.kept)) end
    ∙ over_end (reading_request_on c.args.who.now) c.args.spots.now.items (state_of read c.loop-place.host.kept)))
