use Rattle.sl_live_lines.proofs.marks.open_starts.Given as goal
use Rattle.sl_live_lines.specs.AuditedHistory.{has, opened_at}
use Rattle.sl_trace.specs.declared.effects.Start.{Start}
use Rattle.std.proofs.Common.{Some, cond, map, take, ℕ, ◌≡◌}

-- those before this one are open
abbrev pub invariant-loop-start : goal.invariant-loop-start
invariant-loop-start l = (n : ℕ) → opened_at l.opened n ≡ cond (has (map (λ (x : Start). x.process) (take l.start-index l.starts)) n) (Some l.number) (opened_at l.fn.opened n)
