use Rattle.sl_sector.proofs.BitLaws.{bits_below}
use Rattle.sl_sector.proofs.bits.push_bits_of_byte.Given as goal
use Rattle.std.proofs.Common.{◌++◌, ◌≡◌}

-- the bits of the byte below j have been added
abbrev pub invariant-loop-j : goal.invariant-loop-j
invariant-loop-j l = l.bits.items ≡ l.fn.bits.items ++ bits_below l.i l.byte l.j
