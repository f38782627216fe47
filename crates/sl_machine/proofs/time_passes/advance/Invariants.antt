use Rattle.sl_machine.proofs.PlainNumbered.{front_changed}
use Rattle.sl_machine.proofs.time_passes.advance.Given as goal
use Rattle.sl_machine.specs.ClocksGoOn.{clock_later}
use Rattle.std.proofs.Common.{vec_len, ◌≡◌}

-- the clocks before this one have gone on
abbrev pub invariant-loop-index : goal.invariant-loop-index
invariant-loop-index g l =
    (l.machines.items ≡ front_changed (clock_later l.time l.growths) l.index 0 l.fn.machines.items) × (vec_len l.machines ≡ vec_len l.fn.machines)
