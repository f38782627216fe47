use Rattle.sl_command.specs.OutputLines.{class_text}
use Rattle.sl_live_lines.proofs.EventLaws.{events_written}
use Rattle.sl_live_lines.proofs.event_texts.Events.push_all.Goals as goal
use Rattle.sl_live_lines.specs.EventTexts.{Telling}
use Rattle.sl_trace.specs.EffectTexts.{end_words, sent_words}
use Rattle.std.proofs.Common.{ap, ◌++◌, ◌∙◌}

pub returns : goal.returns
returns c =
    let m = c.args.machine in
    let k = c.self.inside in
    let t : Telling = record { events = k.events; connections = k.connections.connections; reading = k.reading } in
    let e = c.args.entry.now in
    let first = c.args.out.now.items in
    let two = c.push_exit.new.out.items in
    let three = c.push_ends.new.out.items in
    rw (← c.self.view_is)
    (events_written m t e first c.push_recoveries.new.out.items two three _
    c.in_ok-push_recoveries.ensures c.in_ok-push_exit.ensures
    (c.in_ok-push_ends.ensures ∙ ap (λ xs. two ++ class_text m (λ x. end_words x) xs) c.as_slice.ensures)
    (c.in_ok-push_signals.ensures ∙ ap (λ xs. three ++ class_text m (λ x. sent_words x) xs) c.as_slice-2.ensures))
