use Rattle.sl_delta.proofs.StandsLaws.{answer_stands}
use Rattle.sl_delta.proofs.own_sector.OwnSector.first_answered.Goals as goal
use Rattle.sl_delta.specs.OwnSector.{OwnStands, answer_in}
use Rattle.sl_trace.specs.declared.effects.JoinStep.TheVariants.{FirstRead}
use Rattle.sl_trace.specs.declared.effects.Purpose.TheVariants.{Joining}
use Rattle.std.proofs.Common.{Some, subst, sym, ◌∷◌}

pub returns-clause-stands : goal.returns-clause-stands
returns-clause-stands c =
    λ s j m ms a k is. subst (λ o. OwnStands s o (record m { answer = Some a } ∷ ms)) (sym (c.take_first.ensures j))
    (answer_stands s c.args.self.now (Joining j FirstRead) (answer_in c.args.answer) c.args.now m ms a k is)
