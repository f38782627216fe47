use Rattle.std.proofs.Common.{sym, ◌∙◌}
use Rattle.sl_sector.proofs.RuleLaws.{broken_rules, kept_rules}
use Rattle.sl_sector.proofs.fields.under.Goals as goal

pub returns-in-Ok : goal.returns-in-Ok
returns-in-Ok g c = sym (kept_rules c.args.rules.now c.args.value (sym c.all_hold.ensures ∙ c.in-Ok.is))

pub returns-in-Err : goal.returns-in-Err
returns-in-Err g c = sym (broken_rules c.args.rules.now c.args.value c.in-Err.bad (sym c.all_hold.ensures ∙ c.in-Err.is))
