use Rattle.sl_command.specs.OutputLines.{class_text}
use Rattle.sl_live_lines.proofs.event_texts.push_signals.Given as goal
use Rattle.sl_trace.specs.EffectTexts.{sent_words}
use Rattle.std.proofs.Common.{take, ◌++◌, ◌≡◌}

-- the lines of those before this one have been added
abbrev pub invariant-loop-sent : goal.invariant-loop-sent
invariant-loop-sent l = l.out.items ≡ l.fn.out.items ++ class_text l.machine (λ x. sent_words x) (take l.sent-index l.signals)
