use Rattle.sl_host_answers.specs.WholeAnswers.{CanAnswer, answer_of, calls_of, effects_of}
use Rattle.sl_host_step.proofs.AnswerSectors.{few_calls, few_effects}
use Rattle.sl_host_step.proofs.LinePremises.{answer_leaves}
use Rattle.sl_host_step.proofs.AnswerPremises.{can_answer}
use Rattle.sl_host_step.proofs.answer.take_answer.Goals as goal
use Rattle.sl_host_step.specs.InputReach.{reach_at}
use Rattle.sl_host_step.specs.StepMemory.{ScratchState}
use Rattle.std.proofs.Common.{subst, sym}

pub answer-requires-clause-can : goal.answer-requires-clause-can
answer-requires-clause-can g c d opens =
    let at = c.requires.at in
    let a = answer_of g.S.Sectors.bytes c.args.heard in
    let v = c.args.host.now in
    subst (λ (s : ScratchState). CanAnswer v.kept d a v.left v.calls s.jobs s.spots) (sym c.scratch.view_is)
    (can_answer at.0 c.args.number a at.1 v.kept d c.requires.left.0 v c.args.scratch.now at.2 opens c.requires.left.1 c.requires.scratch)

pub returns-clause-left : goal.returns-clause-left
returns-clause-left g c first left =
    let k = c.args.host.now.kept in
    let n = c.args.number in
    answer_leaves (reach_at k n) (effects_of k n) (calls_of k n) first c.args.host.now c.answer.new.host left (few_effects k n) (few_calls k n) c.answer.ensures.left c.answer.ensures.run
