use Rattle.std.proofs.Common.{ap, arith, length}
use Rattle.sl_text.proofs.hex.bytes_of.Goals as goal

pub decode-requires-clause-digits : goal.decode-requires-clause-digits
decode-requires-clause-digits c = c.requires.digits

pub decode-requires-clause-size : goal.decode-requires-clause-size
decode-requires-clause-size c = omega (arith, c.in_ok-bytes.ensures.len, ap length c.deref_mut.ensures.value, c.requires.even)
