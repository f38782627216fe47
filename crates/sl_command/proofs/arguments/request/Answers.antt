use Rattle.sl_area.specs.AreaSizes.{layout_of}
use Rattle.sl_command.proofs.arguments.request.Goals as goal
use Rattle.sl_command.specs.Arguments.{is_request_word, request_of_word}
use Rattle.sl_text.proofs.PartLaws.{accepted}
use Rattle.std.proofs.Common.{arith, ◌∙◌}

pub returns-clause-exact : goal.returns-clause-exact
returns-clause-exact c =
    let g = layout_of c.args.geometry.now in
    c.accept.ensures.exact
    ∙ accepted (is_request_word g) request_of_word c.args.words.now.column c.args.words.now.words c.in_ok-word.word.now c.request_of.result
    (grind (arith, c.peek.ensures, c.ok_or.ensures.value, c.in_ok-word.was)) c.request_of.ensures
