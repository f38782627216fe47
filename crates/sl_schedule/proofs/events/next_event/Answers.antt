use Rattle.sl_report.specs.ReadLines.{command_event}
use Rattle.sl_schedule.proofs.EventLaws.{command_made}
use Rattle.sl_schedule.proofs.events.next_event.Goals as goal
use Rattle.sl_text.specs.Forms.{exactly}
use Rattle.sl_text.specs.Walks.{Unread, next_passes, past_word}
use Rattle.std.proofs.Common.{ap, codes, sym, ◌∙◌, ◌∷◌}
use Rattle.std.proofs.lemmas.Result.{IfOk-weaker}

pub returns-then-skip : goal.returns-then-skip
returns-then-skip c =
    IfOk-weaker c.read_command.result _ _
    (λ event e. e ∙ ap (λ (u : Unread). command_event (codes "command" ∷ u.words)) (c.if-skip.ensures.left ∙ ap past_word c.new-words.ensures)
    ∙ command_made c.args.machines c.args.sector c.args.line.now
    (ap (next_passes (exactly (codes "command"))) (sym c.new-words.ensures) ∙ sym c.if-skip.ensures.exact)) c.read_command.ensures
