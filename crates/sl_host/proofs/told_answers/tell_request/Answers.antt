use Rattle.sl_host.proofs.AnswersTold.{no_owner, request_off}
use Rattle.sl_host.proofs.told_answers.tell_request.Goals as goal
use Rattle.sl_host.specs.HeardAnswers.{request_heard}
use Rattle.std.proofs.Common.{ap, arith, ◌∙◌}

pub returns-else-owner-ge1 : goal.returns-else-owner-ge1
returns-else-owner-ge1 c =
    request_off c.args.members.now c.args.call.now.session c.args.now c.args.owner
    (λ m. ap (λ o. request_heard o c.args.now m) c.in-Some.is ∙ no_owner c.in-Some.owner c.args.now m (omega (arith, c.if-owner-ge1.false)))

pub returns-in-None : goal.returns-in-None
returns-in-None c = request_off c.args.members.now c.args.call.now.session c.args.now c.args.owner (λ m. ap (λ o. request_heard o c.args.now m) c.in-None.is)
