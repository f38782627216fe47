use Rattle.std.proofs.Common.{arith, sym, ◌^◌, ◌∙◌}
use Rattle.sl_text.proofs.NumberLaws.{value_over, value_whole}
use Rattle.sl_text.proofs.number.value_of.Goals as goal

pub returns-in_err-value : goal.returns-in_err-value
returns-in_err-value c =
    c.from_residual.ensures ∙ sym (value_over c.args.digits.now c.loop-byte.byte-index c.loop-byte.value c.digit_of.result (2 ^ 64) (omega arith)
    c.loop-byte.invariant.0 c.digit_of.ensures (sym c.with_digit.ensures ∙ c.in_err-value.was))

pub returns : goal.returns
returns c = value_whole c.args.digits.now c.loop-byte.byte-index c.loop-byte.value (2 ^ 64) (omega arith) c.loop-byte.invariant.0 c.loop-byte.invariant.1
