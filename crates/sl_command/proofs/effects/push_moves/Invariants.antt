use Rattle.sl_command.proofs.effects.push_moves.Given as goal
use Rattle.sl_command.specs.OutputLines.{KeepsFronts, class_text}
use Rattle.sl_trace.specs.EffectTexts.{move_words}
use Rattle.std.proofs.Common.{take, ◌++◌, ◌≡◌}

-- the lines of those before this one have been added
abbrev pub invariant-loop-step : goal.invariant-loop-step
invariant-loop-step l = record {
  written : l.out.items ≡ l.fn.out.items ++ class_text l.machine (λ x. move_words x) (take l.step-index l.moves);
  kept : KeepsFronts l.fn.out.items l.out.items;
}
