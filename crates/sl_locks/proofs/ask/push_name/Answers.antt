use Rattle.sl_command.proofs.LineLaws.{one_read}
use Rattle.sl_locks.proofs.ask.push_name.Goals as goal
use Rattle.std.proofs.Common.{[], ◌∷◌}
use Rattle.std.specs.Prelude.{if◌then◌else◌, ◌==◌}

pub loop-byte-preserved : goal.loop-byte-preserved
loop-byte-preserved c =
    one_read (λ b. if b == 45 then 45 ∷ 45 ∷ [] else b ∷ []) c.args.name.now c.loop-byte.byte-index 0 _ _ _
    c.loop-byte-test.true c.loop-byte.invariant c.in_ok-push_doubled.ensures
