use Rattle.sl_host_answers.proofs.SurveysStand.{shown_few, surveyed}
use Rattle.sl_host_answers.proofs.surveys.answer_survey.Goals as goal
use Rattle.sl_host_answers.specs.Surveys.{acting, spots_of}
use Rattle.sl_host_law.specs.Steps.Passes.{member_numbered}
use Rattle.sl_host_state.specs.KeptState.{state_of}
use Rattle.sl_host.specs.BookQuestions.{state_in}
use Rattle.std.proofs.Common.{ap, arith, ◌∙◌}
use Rattle.std.specs.Prelude.{length}

pub act-requires-clause-left : goal.act-requires-clause-left
act-requires-clause-left g c =
    let k = c.args.host.now.kept in
    let few = shown_few k (state_in k) (g.S.Sectors.bytes c.args.sectors.now) c.in-Some.shown (member_numbered (state_in k) c.args.call.now.session) c.in-Some.ensures in
    omega (arith, few, c.requires.left)

pub act-requires-clause-calls : goal.act-requires-clause-calls
act-requires-clause-calls g c =
    let count = ap (λ n. length n.items) c.note_spots.ensures in
    omega (arith, count, c.requires.calls)

pub returns-in-Some-clause-state : goal.returns-in-Some-clause-state
returns-in-Some-clause-state g c read =
    let h = state_of read c.args.host.now.kept in
    c.act.ensures.state read
    ∙ (λ i. acting (c.in-Some.ensures i) (c.note_spots.ensures i).items h)
    ∙ surveyed c.args.call.now.session (g.S.Sectors.bytes c.args.sectors.now) h

pub returns-in-Some-clause-left : goal.returns-in-Some-clause-left
returns-in-Some-clause-left g c =
    let k = c.args.host.now.kept in
    let few = shown_few k (state_in k) (g.S.Sectors.bytes c.args.sectors.now) c.in-Some.shown (member_numbered (state_in k) c.args.call.now.session) c.in-Some.ensures in
    let count = ap (λ n. length n.items) c.note_spots.ensures in
    (omega (arith, few, c.act.ensures.left.0), omega (arith, count, c.act.ensures.left.1))

pub returns-in-None-clause-state : goal.returns-in-None-clause-state
returns-in-None-clause-state g c read =
    let h = state_of read c.args.host.now.kept in
    ap (λ o. acting o (spots_of (member_numbered h c.args.call.now.session)) h) c.in-None.ensures
    ∙ surveyed c.args.call.now.session (g.S.Sectors.bytes c.args.sectors.now) h
