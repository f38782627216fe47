use Rattle.std.proofs.Common.{sym, ◌∙◌}
use Rattle.sl_text.proofs.HexLaws.{hex_text_read, hex_word_size}
use Rattle.sl_text.proofs.hex.read_hex.Goals as goal

pub data_of-requires-clause-digits : goal.data_of-requires-clause-digits
data_of-requires-clause-digits c = (hex_word_size 2 512 c.args.word.now (sym c.is_hex.ensures ∙ c.if-is_hex.true)).2

pub data_of-requires-clause-even : goal.data_of-requires-clause-even
data_of-requires-clause-even c = (hex_word_size 2 512 c.args.word.now (sym c.is_hex.ensures ∙ c.if-is_hex.true)).0

pub data_of-requires-clause-few : goal.data_of-requires-clause-few
data_of-requires-clause-few c = (hex_word_size 2 512 c.args.word.now (sym c.is_hex.ensures ∙ c.if-is_hex.true)).1

pub returns-then-is_hex-clause-found : goal.returns-then-is_hex-clause-found
returns-then-is_hex-clause-found c = hex_text_read 2 512 c.args.word.now c.data_of.result (sym c.is_hex.ensures ∙ c.if-is_hex.true) c.data_of.ensures
