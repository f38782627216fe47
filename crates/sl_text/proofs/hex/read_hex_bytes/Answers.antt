use Rattle.std.proofs.Common.{sym, ◌∙◌}
use Rattle.sl_text.proofs.HexLaws.{hex_text_read, hex_word_size}
use Rattle.sl_text.proofs.hex.read_hex_bytes.Goals as goal

pub bytes_of-requires-clause-digits : goal.bytes_of-requires-clause-digits
bytes_of-requires-clause-digits c = (hex_word_size c.args.low c.args.high c.args.word.now (sym c.is_hex.ensures ∙ c.if-is_hex.true)).2

pub bytes_of-requires-clause-even : goal.bytes_of-requires-clause-even
bytes_of-requires-clause-even c = (hex_word_size c.args.low c.args.high c.args.word.now (sym c.is_hex.ensures ∙ c.if-is_hex.true)).0

pub returns-in_ok-bytes_of-clause-found : goal.returns-in_ok-bytes_of-clause-found
returns-in_ok-bytes_of-clause-found c = hex_text_read c.args.low c.args.high c.args.word.now c.in_ok-bytes_of.field-0 (sym c.is_hex.ensures ∙ c.if-is_hex.true) c.in_ok-bytes_of.ensures
