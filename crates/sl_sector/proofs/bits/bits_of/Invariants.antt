use Rattle.sl_sector.proofs.BitLaws.{bits_of_front}
use Rattle.sl_sector.proofs.bits.bits_of.Given as goal
use Rattle.std.proofs.Common.{◌≡◌}

-- the bits of the bytes before i have been added
abbrev pub invariant-loop-i : goal.invariant-loop-i
invariant-loop-i l = l.bits.items ≡ bits_of_front l.bitmap l.i
