use Rattle.sl_area.specs.AreaSizes.{layout_of}
use Rattle.sl_command.proofs.ArgumentLaws.{moded_first, moded_neither, moded_second}
use Rattle.sl_command.proofs.arguments.moded_of.Goals as goal
use Rattle.sl_trace.specs.CommandForms.{is_resource_word, is_shared_word, resource_of_word}
use Rattle.std.proofs.Common.{sym, ◌∙◌}

pub returns-in-Some : goal.returns-in-Some
returns-in-Some c =
    let g = layout_of c.args.geometry.now in
    let w = c.args.word.now in
    moded_first (is_resource_word g w) (is_shared_word g w) (resource_of_word w) c.in-Some.resource (sym c.resource_text_of.ensures ∙ c.in-Some.is)

pub returns-in_ok-shared_of-in-None : goal.returns-in_ok-shared_of-in-None
returns-in_ok-shared_of-in-None c =
    let g = layout_of c.args.geometry.now in
    let w = c.args.word.now in
    moded_second (is_resource_word g w) (is_shared_word g w) (resource_of_word w) c.in_ok-shared_of-in-None.field-0
    (sym c.resource_text_of.ensures ∙ c.in-None.is) (sym c.shared_of.ensures ∙ c.in_ok-shared_of-in-None.was)

pub returns-in_err-shared_of-in-None : goal.returns-in_err-shared_of-in-None
returns-in_err-shared_of-in-None c =
    let g = layout_of c.args.geometry.now in
    let w = c.args.word.now in
    c.from_residual.ensures ∙ moded_neither (is_resource_word g w) (is_shared_word g w) (resource_of_word w)
    (sym c.resource_text_of.ensures ∙ c.in-None.is) (sym c.shared_of.ensures ∙ c.in_err-shared_of-in-None.was)
