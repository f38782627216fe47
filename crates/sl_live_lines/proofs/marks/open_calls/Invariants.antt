use Rattle.sl_live_lines.proofs.marks.open_calls.Given as goal
use Rattle.sl_live_lines.specs.AuditedHistory.{has, opened_at}
use Rattle.sl_trace.specs.declared.effects.Call.{Call}
use Rattle.std.proofs.Common.{Some, cond, map, take, ℕ, ◌≡◌}

-- those before this one are open
abbrev pub invariant-loop-call : goal.invariant-loop-call
invariant-loop-call l = (n : ℕ) → opened_at l.opened n ≡ cond (has (map (λ (x : Call). x.number) (take l.call-index l.calls)) n) (Some l.number) (opened_at l.fn.opened n)
