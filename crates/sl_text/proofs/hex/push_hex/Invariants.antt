use Rattle.std.proofs.Common.{length, take, vec_capacity, vec_len, ◌*◌, ◌+◌, ◌++◌, ◌≡◌, ◌≤◌}
use Rattle.sl_text.specs.Numbers.{hex_text}
use Rattle.sl_text.proofs.hex.push_hex.Given as goal

abbrev pub invariant-loop-byte : goal.invariant-loop-byte
invariant-loop-byte l = record {
  written : l.out.items ≡ l.fn.out.items ++ hex_text (take l.byte-index l.bytes);
  room : vec_len l.out + 2 * length l.bytes ≤ vec_capacity l.out + 2 * l.byte-index;
}
