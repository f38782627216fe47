use Rattle.sl_host_answers.proofs.WholeAnswersStand.{its_number}
use Rattle.sl_host_answers.proofs.answers.answer.Goals as goal
use Rattle.sl_host_answers.specs.WholeAnswers.{answer_of}
use Rattle.sl_host_law.specs.Steps.Answers.{answering}
use Rattle.sl_host_state.specs.KeptState.{state_of}
use Rattle.std.proofs.Common.{ap, sym, ◌∙◌}

pub hear_call-requires-clause-can : goal.hear_call-requires-clause-can
hear_call-requires-clause-can g c = c.requires.can c.in-Some.call (sym c.in-Some.ensures)

pub hear_call-requires-clause-fits : goal.hear_call-requires-clause-fits
hear_call-requires-clause-fits g c = c.requires.fits c.in-Some.call (sym c.in-Some.ensures)

pub returns-in-Some-clause-state : goal.returns-in-Some-clause-state
returns-in-Some-clause-state g c read =
    c.hear_call.ensures.state read
    ∙ ap (λ n. answering n (answer_of g.S.Sectors.bytes c.args.heard) (state_of read c.args.host.now.kept)) (its_number c.args.number c.args.host.now.kept.unanswered c.in-Some.call c.in-Some.ensures)
