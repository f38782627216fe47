use Rattle.sl_delta.proofs.StandsLaws.{answer_stands}
use Rattle.sl_delta.proofs.own_sector.OwnSector.answered.Goals as goal
use Rattle.sl_delta.specs.OwnSector.{OwnStands}
use Rattle.std.proofs.Common.{Some, subst, sym, ◌∷◌}

pub returns-clause-stands : goal.returns-clause-stands
returns-clause-stands c =
    λ s m ms a k is. subst (λ o. OwnStands s o (record m { answer = Some a } ∷ ms)) (sym (c.take_answer.ensures a.answer))
    (answer_stands s c.args.self.now c.args.purpose.now a.answer c.args.now m ms a k is)
