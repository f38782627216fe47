-- The same text, told as a line.
use Rattle.sl_story.proofs.header.session_text.Goals as goal
use Rattle.std.proofs.Common.{◌∙◌}
use Rattle.std.proofs.lemmas.List.{append_assoc}

pub returns : goal.returns
returns c = c.in_ok-text.ensures.ok ∙ simp append_assoc
