use Rattle.sl_delta.specs.OwnSector.{answer_in}
use Rattle.sl_host.proofs.AnswersTold.{renewals_off}
use Rattle.sl_host.proofs.told_answers.tell_renewals.Goals as goal
use Rattle.std.proofs.Common.{sym}

pub returns-else-tells_renewals : goal.returns-else-tells_renewals
returns-else-tells_renewals c = renewals_off c.args.members.now c.args.call.now.session c.args.call.now (answer_in c.args.answer.now) c.args.begun (sym c.if-tells_renewals.ensures)
