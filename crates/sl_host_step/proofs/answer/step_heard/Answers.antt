use Rattle.sl_host_answers.specs.WholeAnswers.{answer_of}
use Rattle.sl_host_state.specs.KeptState.{Made}
use Rattle.sl_host_step.proofs.AnswerSectors.{fits_still, left_still}
use Rattle.sl_host_step.proofs.answer.step_heard.Goals as goal
use Rattle.sl_trace.specs.declared.input.Input.TheVariants.{Answer as Told}
use Rattle.std.proofs.Common.{ap, sym, ◌∙◌}

pub take_answer-requires-clause-left : goal.take_answer-requires-clause-left
take_answer-requires-clause-left g c =
    let i = Told c.args.number (answer_of g.S.Sectors.bytes c.args.heard) in
    let first = c.args.host.now in (
      first,
      left_still c.args.now i first c.start.new.host (c.in_ok-is_loud.ensures.at i c.requires.comes) c.args.number c.reach_at-reach.result c.reach_at-reach.ensures c.in_ok-is_loud.ensures.left.0,
    )

pub take_answer-requires-clause-at : goal.take_answer-requires-clause-at
take_answer-requires-clause-at g c = (c.args.now, c.args.host.now.kept, c.in_ok-is_loud.ensures.at (Told c.args.number (answer_of g.S.Sectors.bytes c.args.heard)) c.requires.comes)

pub take_answer-requires-clause-fits : goal.take_answer-requires-clause-fits
take_answer-requires-clause-fits g c =
    let i = Told c.args.number (answer_of g.S.Sectors.bytes c.args.heard) in
    fits_still c.args.now i c.args.host.now.kept c.start.new.host.kept (c.in_ok-is_loud.ensures.at i c.requires.comes) c.args.number g.S.Sectors.bytes g.S.Sectors.is_cut c.args.heard c.requires.fits

pub take_answer-requires-clause-sizes : goal.take_answer-requires-clause-sizes
take_answer-requires-clause-sizes g c =
    let i = Told c.args.number (answer_of g.S.Sectors.bytes c.args.heard) in
    c.start.ensures.sizes ∙ c.requires.sizes ∙ ap (λ (m : Made). m.sizes) (sym (c.in_ok-is_loud.ensures.at i c.requires.comes).same)

pub conclude-requires-clause-at : goal.conclude-requires-clause-at
conclude-requires-clause-at g c =
    let i = Told c.args.number (answer_of g.S.Sectors.bytes c.args.heard) in
    (c.args.now, i, c.args.host.now.kept, c.take_answer.ensures.at c.args.now c.args.host.now.kept (c.in_ok-is_loud.ensures.at i c.requires.comes))

pub conclude-requires-clause-left : goal.conclude-requires-clause-left
conclude-requires-clause-left g c =
    let i = Told c.args.number (answer_of g.S.Sectors.bytes c.args.heard) in
    let first = c.args.host.now in
    let at = c.in_ok-is_loud.ensures.at i c.requires.comes in
    (first, c.take_answer.ensures.left first (left_still c.args.now i first c.start.new.host at c.args.number c.reach_at-reach.result c.reach_at-reach.ensures c.in_ok-is_loud.ensures.left.0))

pub returns-clause-ok : goal.returns-clause-ok
returns-clause-ok g c =
    let i = Told c.args.number (answer_of g.S.Sectors.bytes c.args.heard) in
    let first = c.args.host.now in
    let at = c.in_ok-is_loud.ensures.at i c.requires.comes in
    c.conclude.ensures.stepped c.args.now i first (c.take_answer.ensures.at c.args.now first.kept at)
    (c.take_answer.ensures.left first (left_still c.args.now i first c.start.new.host at c.args.number c.reach_at-reach.result c.reach_at-reach.ensures c.in_ok-is_loud.ensures.left.0))
