use Rattle.sl_command.proofs.effects.push_starts.Given as goal
use Rattle.sl_command.specs.OutputLines.{KeepsFronts, class_text}
use Rattle.sl_trace.specs.EffectTexts.{start_words}
use Rattle.std.proofs.Common.{take, ◌++◌, ◌≡◌}

-- the lines of those before this one have been added
abbrev pub invariant-loop-start : goal.invariant-loop-start
invariant-loop-start l = record {
  written : l.out.items ≡ l.fn.out.items ++ class_text l.machine (λ x. start_words x) (take l.start-index l.starts);
  kept : KeepsFronts l.fn.out.items l.out.items;
}
