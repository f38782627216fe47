use Rattle.sl_sector.proofs.TextLaws.{all_pushed, one_pushed}
use Rattle.std.proofs.Common.{[], ap, arith, decimal, get_or, ◌++◌, ◌∙◌, ◌∷◌}
use Rattle.std.proofs.lemmas.List.{append_assoc}
use Rattle.sl_sector.proofs.texts.push_listed.Goals as goal

pub loop-number-smaller : goal.loop-number-smaller
loop-number-smaller c = omega arith

pub loop-number-preserved : goal.loop-number-preserved
loop-number-preserved c =
    let text = decimal (get_or c.args.numbers.now c.loop-number.number-index 0) in
    one_pushed (λ k. 44 ∷ decimal k) c.args.line.now.items c.loop-number.line.items c.push_decimal.new.line.items c.args.numbers.now
    c.loop-number.number-index 0 c.loop-number-test.true c.loop-number.invariant
    (c.in_ok-push_decimal.ensures ∙ ap (λ t. t ++ text) c.in_ok-push.ensures.items ∙ append_assoc c.loop-number.line.items (44 ∷ []) text)

pub returns : goal.returns
returns c =
    all_pushed (λ k. 44 ∷ decimal k) c.args.line.now.items c.loop-number.line.items c.args.numbers.now c.loop-number.number-index
    c.loop-number-test.false c.loop-number.invariant
