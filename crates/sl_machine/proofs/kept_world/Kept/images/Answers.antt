use Rattle.sl_machine.proofs.kept_world.Kept.images.Goals as goal
use Rattle.std.proofs.Common.{◌∙◌}
use Rattle.std.proofs.lemmas.List.{append-nil}

pub returns : goal.returns
returns g c = λ f there. c.in_ok-images.ensures f there ∙ append-nil f.sampled
