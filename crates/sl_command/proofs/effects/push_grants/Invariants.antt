use Rattle.sl_command.proofs.effects.push_grants.Given as goal
use Rattle.sl_command.specs.OutputLines.{KeepsFronts, class_text}
use Rattle.sl_trace.specs.EffectTexts.{grant_words}
use Rattle.std.proofs.Common.{take, ◌++◌, ◌≡◌}

-- the lines of those before this one have been added
abbrev pub invariant-loop-grant : goal.invariant-loop-grant
invariant-loop-grant l = record {
  written : l.out.items ≡ l.fn.out.items ++ class_text l.machine (λ x. grant_words x) (take l.grant-index l.grants);
  kept : KeepsFronts l.fn.out.items l.out.items;
}
