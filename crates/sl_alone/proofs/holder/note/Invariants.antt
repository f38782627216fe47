use Rattle.sl_alone.proofs.holder.note.Given as goal
use Rattle.sl_alone.specs.DueSignals.{noted}
use Rattle.std.proofs.Common.{drop, map, take, ◌++◌, ◌≡◌}

abbrev pub invariant-loop-holder : goal.invariant-loop-holder
invariant-loop-holder l = l.holders ≡ map (noted l.sent) (take l.holder-index l.fn.holders) ++ drop l.holder-index l.fn.holders
