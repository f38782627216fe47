-- Its times are those, or others; or there was no memory.
use Rattle.sl_label.specs.Labels.{has_time}
use Rattle.sl_standing.proofs.labels.difference.Goals as goal
use Rattle.sl_standing.specs.Standing.{Has_other_area, Has_other_time, No_memory}
use Rattle.std.proofs.Common.{ap, sym, ◌∙◌}

pub returns-in-Ok-true : goal.returns-in-Ok-true
returns-in-Ok-true c found has =
    Has_other_area c.args.stands has c.requires (sym (c.in-Ok-true.ensures ∙ ap (has_time c.args.label.now) c.as_slice.ensures) ∙ c.in-Ok-true.field-0-test)

pub returns-in-Ok-false : goal.returns-in-Ok-false
returns-in-Ok-false c found has =
    Has_other_time c.args.stands has c.requires (sym (c.in-Ok-false.ensures ∙ ap (has_time c.args.label.now) c.as_slice.ensures) ∙ c.in-Ok-false.field-0-test)

pub returns-in-Err : goal.returns-in-Err
returns-in-Err c found has = No_memory
