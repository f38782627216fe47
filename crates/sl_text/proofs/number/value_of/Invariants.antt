use Rattle.std.proofs.Common.{take, ◌<◌, ◌^◌, ◌≡◌}
use Rattle.sl_text.specs.Numbers.{number_of}
use Rattle.sl_text.proofs.number.value_of.Given as goal

abbrev pub invariant-loop-byte : goal.invariant-loop-byte
invariant-loop-byte l = (l.value ≡ number_of (take l.byte-index l.digits)) × (l.value < 2 ^ 64)
