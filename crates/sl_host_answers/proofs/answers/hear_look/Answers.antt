use Rattle.sl_host_answers.proofs.WholeAnswersStand.{finished}
use Rattle.sl_trace.specs.declared.effects.Purpose.TheVariants.{SeeRequest}
use Rattle.sl_trace.specs.declared.input.Answer.TheVariants.{Read}
use Rattle.sl_host_answers.specs.WholeAnswers.{due_for}
use Rattle.sl_host.specs.HeardAnswers.{is_untold}
use Rattle.std.proofs.Common.{None, IsTrue, ap, length, subst, sym, ◌∙◌, ◌≡◌}
use Rattle.sl_host_answers.proofs.answers.hear_look.Goals as goal

pub answer_look-requires-clause-cut : goal.answer_look-requires-clause-cut
answer_look-requires-clause-cut g c = subst (λ z. IsTrue (g.S.Sectors.is_cut c.args.sectors.now z.sizes.sector)) (sym c.hear_untold.ensures.run.0) c.requires.cut

pub answer_look-requires-clause-one : goal.answer_look-requires-clause-one
answer_look-requires-clause-one g c = subst (λ z. length (g.S.Sectors.bytes c.args.sectors.now) ≡ z.sizes.sector) (sym c.hear_untold.ensures.run.0) c.requires.one

pub returns-clause-state : goal.returns-clause-state
returns-clause-state g c read =
    c.answer_look.ensures.state read
    ∙ (ap (due_for (SeeRequest) c.args.call.now (Read (g.S.Sectors.bytes c.args.sectors.now)) None) (c.hear_untold.ensures.state (Read (g.S.Sectors.bytes c.args.sectors.now)) (ap (λ p. is_untold p (Read (g.S.Sectors.bytes c.args.sectors.now))) c.requires.purpose) read) ∙ finished read c.args.host.now.kept c.args.call.now (Read (g.S.Sectors.bytes c.args.sectors.now)) c.requires.may (SeeRequest) c.requires.purpose)
