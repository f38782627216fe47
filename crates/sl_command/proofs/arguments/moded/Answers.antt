use Rattle.sl_area.specs.AreaSizes.{layout_of}
use Rattle.sl_command.proofs.arguments.moded.Goals as goal
use Rattle.sl_command.specs.Arguments.{is_moded_word, moded_of_word}
use Rattle.sl_text.proofs.PartLaws.{accepted}
use Rattle.std.proofs.Common.{arith, ◌∙◌}

pub returns-clause-exact : goal.returns-clause-exact
returns-clause-exact c =
    let g = layout_of c.args.geometry.now in
    c.accept.ensures.exact
    ∙ accepted (is_moded_word g) (moded_of_word g) c.args.words.now.column c.args.words.now.words c.in_ok-word.word.now c.moded_of.result
    (grind (arith, c.peek.ensures, c.ok_or.ensures.value, c.in_ok-word.was)) c.moded_of.ensures
