use Rattle.sl_member.proofs.asked_requests.Asked.bits.Given as goal
use Rattle.sl_member.specs.AskedRequests.{bits_within}
use Rattle.std.proofs.Common.{◌≡◌}

abbrev pub invariant-loop-before : goal.invariant-loop-before
invariant-loop-before l = l.bits ≡ bits_within l.timing l.before l.self l.now
