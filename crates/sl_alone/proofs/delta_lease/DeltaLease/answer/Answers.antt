use Rattle.sl_area.specs.AreaSizes.{IsGeometry}
use Rattle.sl_alone.proofs.DeltaTold.{sized_is}
use Rattle.sl_alone.proofs.delta_lease.DeltaLease.answer.Goals as goal
use Rattle.sl_alone.specs.DeltaSteps.{after_told, begun, given_told, is_late, with_recovery}
use Rattle.sl_delta.proofs.PurposeLaws.{survey_is}
use Rattle.sl_trace.specs.declared.effects.Purpose.TheVariants.{Survey}
use Rattle.std.proofs.Common.{ap, subst, sym, ◌∙◌}

pub returns-then-is_survey-clause-state : goal.returns-then-is_survey-clause-state
returns-then-is_survey-clause-state c =
    c.hear_survey.ensures.state c.args.call c.args.waiting.now.made
    ∙ ap (λ l. after_told c.args.now c.args.call Survey c.args.waiting.now.made c.args.answer l) c.begin-late.ensures.state
    ∙ ap (λ p. after_told c.args.now c.args.call p c.args.waiting.now.made c.args.answer (begun c.args.now c.args.self.now))
    (survey_is c.args.waiting.now.purpose (sym c.is_survey.ensures ∙ c.if-is_survey.true))

pub returns-then-is_survey-clause-out : goal.returns-then-is_survey-clause-out
returns-then-is_survey-clause-out c =
    c.with_recovery.ensures ∙ ap (λ b. with_recovery b c.hear_survey.result) c.begin-late.ensures.late
    ∙ ap (with_recovery (is_late c.args.now c.args.self.now))
    (c.hear_survey.ensures.out c.args.call c.args.waiting.now.made
    ∙ ap (λ l. given_told c.args.now c.args.call Survey c.args.waiting.now.made c.args.answer l) c.begin-late.ensures.state
    ∙ ap (λ p. given_told c.args.now c.args.call p c.args.waiting.now.made c.args.answer (begun c.args.now c.args.self.now))
    (survey_is c.args.waiting.now.purpose (sym c.is_survey.ensures ∙ c.if-is_survey.true)))

pub sector_answer-requires : goal.sector_answer-requires
sector_answer-requires c =
    sized_is c.args.self.now.own c.args.answer c.args.waiting.now.purpose
    (subst (λ l. IsGeometry l.own.sizes) c.self.view_is (subst (λ x. IsGeometry x.own.sizes) c.self-inside.view_is c.sector-sizes.ensures.geometry))
    (sym c.is_survey.ensures ∙ c.if-is_survey.false) c.requires.fit
