use Rattle.sl_host_step.proofs.AnswerSectors.{joining_long, joins_is, sectors_fit}
use Rattle.sl_host_step.proofs.answer.step_images.Goals as goal
use Rattle.sl_trace.specs.declared.input.Answer.TheVariants.{Read}
use Rattle.std.proofs.Common.{refl, subst, sym, ◌∙◌}
use Rattle.std.proofs.lemmas.Bool.{eqb-true}
use Rattle.std.specs.Prelude.{IsTrue}

pub only_sector-requires-clause-one : goal.only_sector-requires-clause-one
only_sector-requires-clause-one c =
    joining_long c.args.now c.args.number c.args.sectors.now.bytes c.args.host.now.kept c.requires.comes (sym c.is_joining.ensures ∙ c.if-is_joining.true)
    ∙ sym (eqb-true c.args.sectors.now.size c.args.host.now.kept.config.sizes.sector (sym c.is_cut_so.ensures ∙ c.if-not-is_cut_so.false))

pub step_heard-requires-2-clause-fits : goal.step_heard-requires-2-clause-fits
step_heard-requires-2-clause-fits c d opens =
    let k = c.args.host.now.kept in (
      subst (λ b. IsTrue b) (sym c.if-not-is_cut_so.false ∙ c.is_cut_so.ensures) refl,
      sectors_fit c.args.now c.args.number (Read c.args.sectors.now.bytes) k d c.requires.comes opens c.args.sectors.now.bytes refl
          (sym (joins_is k c.args.number d opens) ∙ sym c.is_joining.ensures ∙ c.if-is_joining.false),
    )
