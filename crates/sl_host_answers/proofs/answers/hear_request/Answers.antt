use Rattle.sl_host_answers.proofs.WholeAnswersStand.{finished, known_then}
use Rattle.sl_trace.specs.declared.effects.Purpose.TheVariants.{RequestRead}
use Rattle.sl_trace.specs.declared.input.Answer.TheVariants.{Read}
use Rattle.sl_host_answers.specs.WholeAnswers.{due_for}
use Rattle.sl_host.specs.HeardAnswers.{is_untold}
use Rattle.std.proofs.Common.{None, IsTrue, ap, length, subst, sym, ◌*◌, ◌∙◌, ◌≡◌}
use Rattle.sl_host_answers.proofs.answers.hear_request.Goals as goal

pub answer_request-requires-clause-known : goal.answer_request-requires-clause-known
answer_request-requires-clause-known g c =
    let a = Read (g.S.Sectors.bytes c.args.sectors.now) in
    known_then c.args.host.now.kept c.hear_untold.new.self.kept c.args.call.now a (RequestRead c.args.job) c.requires.may c.requires.purpose (c.hear_untold.ensures.state a (ap (λ p. is_untold p a) c.requires.purpose))

pub answer_request-requires-clause-cut : goal.answer_request-requires-clause-cut
answer_request-requires-clause-cut g c = subst (λ z. IsTrue (g.S.Sectors.is_cut c.args.sectors.now z.sizes.sector)) (sym c.hear_untold.ensures.run.0) c.requires.cut

pub answer_request-requires-clause-two : goal.answer_request-requires-clause-two
answer_request-requires-clause-two g c = subst (λ z. length (g.S.Sectors.bytes c.args.sectors.now) ≡ 2 * z.sizes.sector) (sym c.hear_untold.ensures.run.0) c.requires.two

pub returns-clause-state : goal.returns-clause-state
returns-clause-state g c read =
    c.answer_request.ensures.state read
    ∙ (ap (due_for (RequestRead c.args.job) c.args.call.now (Read (g.S.Sectors.bytes c.args.sectors.now)) None) (c.hear_untold.ensures.state (Read (g.S.Sectors.bytes c.args.sectors.now)) (ap (λ p. is_untold p (Read (g.S.Sectors.bytes c.args.sectors.now))) c.requires.purpose) read) ∙ finished read c.args.host.now.kept c.args.call.now (Read (g.S.Sectors.bytes c.args.sectors.now)) c.requires.may (RequestRead c.args.job) c.requires.purpose)
