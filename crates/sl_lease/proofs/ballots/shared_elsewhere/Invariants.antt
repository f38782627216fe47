use Rattle.sl_lease.proofs.ballots.shared_elsewhere.Given as goal
use Rattle.sl_lease.specs.LeaseQuestions.{is_shared_beside}
use Rattle.sl_words.specs.Words.{present}
use Rattle.std.proofs.Common.{drop, find, ◌≡◌}

abbrev pub invariant-loop-block : goal.invariant-loop-block
invariant-loop-block g l = find (is_shared_beside l.id (g.E.Evidence.over l.evidence)) (present (drop l.block-index l.read)) ≡ find (is_shared_beside l.id (g.E.Evidence.over l.evidence)) (present l.read)
