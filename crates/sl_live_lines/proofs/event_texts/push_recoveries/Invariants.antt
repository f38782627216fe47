use Rattle.sl_live_lines.proofs.event_texts.push_recoveries.Given as goal
use Rattle.sl_live_lines.specs.EventTexts.{recovery_text}
use Rattle.std.proofs.Common.{take, ◌++◌, ◌≡◌}
use Rattle.std.specs.Prelude.{flat_map}

-- the lines of those before this one have been added
abbrev pub invariant-loop-place : goal.invariant-loop-place
invariant-loop-place l = l.out.items ≡ l.fn.out.items ++ flat_map (recovery_text l.machine l.before l.now) (take l.place l.connections.connections)
