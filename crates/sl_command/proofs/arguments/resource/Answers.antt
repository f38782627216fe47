use Rattle.sl_area.specs.AreaSizes.{layout_of}
use Rattle.sl_command.proofs.arguments.resource.Goals as goal
use Rattle.sl_trace.specs.CommandForms.{is_resource_word, resource_of_word}
use Rattle.sl_text.proofs.PartLaws.{accepted}
use Rattle.std.proofs.Common.{arith, ◌∙◌}

pub returns-clause-exact : goal.returns-clause-exact
returns-clause-exact c =
    let g = layout_of c.args.geometry.now in
    c.accept.ensures.exact
    ∙ accepted (is_resource_word g) resource_of_word c.args.words.now.column c.args.words.now.words c.in_ok-word.word.now c.resource_text_of.result
    (grind (arith, c.peek.ensures, c.ok_or.ensures.value, c.in_ok-word.was)) c.resource_text_of.ensures
