use Rattle.sl_command.proofs.DefaultNameLaws.{same_text}
use Rattle.sl_command.proofs.default_names.uuid_text.Goals as goal
use Rattle.std.proofs.Common.{ap, ◌∙◌}
use Rattle.uuid.specs.Text.{hyphenated_text}

pub returns : goal.returns
returns c = c.encode_lower.ensures.text ∙ ap (hyphenated_text 97) (c.hyphenated.ensures ∙ c.from_u128.ensures) ∙ same_text c.args.bits
