use Rattle.std.proofs.Common.{Err, ap, false, sym, ◌∙◌}
use Rattle.sl_sector.proofs.RuleLaws.{handed_on, rules_end, rules_go_on, rules_stop}
use Rattle.sl_sector.proofs.fields.all_hold.Goals as goal

pub returns-in_err-rule : goal.returns-in_err-rule
returns-in_err-rule c =
    handed_on c.from_residual.result c.in_err-rule.field-0.0 c.from_residual.ensures.1
    ∙ ap (λ x. Err x) c.in_err-rule.ensures.1
    ∙ sym (rules_stop c.args.rules.now c.loop-given.given-index (0, false) c.loop-given-test.true c.in_err-rule.ensures.0 c.loop-given.invariant)

pub loop-given-preserved : goal.loop-given-preserved
loop-given-preserved c = rules_go_on c.args.rules.now c.loop-given.given-index (0, false) c.loop-given-test.true c.in_ok-rule.ensures.0 c.loop-given.invariant

pub returns : goal.returns
returns c = sym (rules_end c.args.rules.now c.loop-given.given-index c.loop-given-test.false c.loop-given.invariant)
