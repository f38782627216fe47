use Rattle.sl_command.specs.OutputLines.{class_text}
use Rattle.sl_live_lines.proofs.event_texts.push_ends.Given as goal
use Rattle.sl_trace.specs.EffectTexts.{end_words}
use Rattle.std.proofs.Common.{take, ◌++◌, ◌≡◌}

-- the lines of those before this one have been added
abbrev pub invariant-loop-end : goal.invariant-loop-end
invariant-loop-end l = l.out.items ≡ l.fn.out.items ++ class_text l.machine (λ x. end_words x) (take l.end-index l.ends)
