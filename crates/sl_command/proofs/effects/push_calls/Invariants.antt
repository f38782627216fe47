use Rattle.sl_command.proofs.effects.push_calls.Given as goal
use Rattle.sl_command.specs.OutputLines.{KeepsFronts, class_text}
use Rattle.sl_trace.specs.EffectTexts.{call_words}
use Rattle.std.proofs.Common.{take, ◌++◌, ◌≡◌}

-- the lines of those before this one have been added
abbrev pub invariant-loop-call : goal.invariant-loop-call
invariant-loop-call l = record {
  written : l.out.items ≡ l.fn.out.items ++ class_text l.machine (λ x. call_words x) (take l.call-index l.calls);
  kept : KeepsFronts l.fn.out.items l.out.items;
}
