use Rattle.sl_host_answers.proofs.WholeAnswersStand.{finished, known_then, same_holdings, same_jobs, same_leases}
use Rattle.sl_trace.specs.declared.effects.Purpose.TheVariants.{Survey}
use Rattle.sl_trace.specs.declared.input.Answer.TheVariants.{Read}
use Rattle.sl_host_answers.specs.WholeAnswers.{due_for, is_joining_purpose}
use Rattle.std.proofs.Common.{IsTrue, None, ap, arith, length, subst, sym, ◌*◌, ◌∙◌, ◌≡◌}
use Rattle.sl_host_answers.proofs.answers.hear_survey.Goals as goal

pub answer_survey-requires-clause-known : goal.answer_survey-requires-clause-known
answer_survey-requires-clause-known g c =
    known_then c.args.host.now.kept c.hear_survey.new.self.kept c.args.call.now (Read (g.S.Sectors.bytes c.args.sectors.now)) Survey c.requires.may c.requires.purpose c.hear_survey.ensures.state

pub answer_survey-requires-clause-room : goal.answer_survey-requires-clause-room
answer_survey-requires-clause-room g c =
    let same = same_jobs c.args.host.now.kept c.hear_survey.new.self.kept c.args.call.now (Read (g.S.Sectors.bytes c.args.sectors.now)) c.requires.may c.hear_survey.ensures.state in
    omega (arith, same, c.requires.room)

pub answer_survey-requires-clause-places : goal.answer_survey-requires-clause-places
answer_survey-requires-clause-places g c =
    let same = same_leases c.args.host.now.kept c.hear_survey.new.self.kept c.args.call.now (Read (g.S.Sectors.bytes c.args.sectors.now)) c.requires.may c.hear_survey.ensures.state (ap is_joining_purpose c.requires.purpose) in
    omega (arith, same, c.requires.places)

pub answer_survey-requires-clause-left : goal.answer_survey-requires-clause-left
answer_survey-requires-clause-left g c =
    let a = Read (g.S.Sectors.bytes c.args.sectors.now) in
    let jobs = same_jobs c.args.host.now.kept c.hear_survey.new.self.kept c.args.call.now a c.requires.may c.hear_survey.ensures.state in
    let held = same_holdings c.args.host.now.kept c.hear_survey.new.self.kept c.args.call.now a c.requires.may c.hear_survey.ensures.state in
    omega (arith, jobs, held, c.requires.left, c.hear_survey.ensures.left.0)

pub answer_survey-requires-clause-calls : goal.answer_survey-requires-clause-calls
answer_survey-requires-clause-calls g c =
    let same = same_leases c.args.host.now.kept c.hear_survey.new.self.kept c.args.call.now (Read (g.S.Sectors.bytes c.args.sectors.now)) c.requires.may c.hear_survey.ensures.state (ap is_joining_purpose c.requires.purpose) in
    omega (arith, same, c.requires.calls, c.hear_survey.ensures.left.1)

pub answer_survey-requires-clause-cut : goal.answer_survey-requires-clause-cut
answer_survey-requires-clause-cut g c = subst (λ z. IsTrue (g.S.Sectors.is_cut c.args.sectors.now z.sizes.sector)) (sym c.hear_survey.ensures.run.0) c.requires.cut

pub answer_survey-requires-clause-all : goal.answer_survey-requires-clause-all
answer_survey-requires-clause-all g c = subst (λ z. length (g.S.Sectors.bytes c.args.sectors.now) ≡ z.sizes.hosts * z.sizes.sector) (sym c.hear_survey.ensures.run.0) c.requires.all

pub returns-clause-state : goal.returns-clause-state
returns-clause-state g c read =
    let a = Read (g.S.Sectors.bytes c.args.sectors.now) in
    c.answer_survey.ensures.state read ∙ (ap (due_for Survey c.args.call.now a None) (c.hear_survey.ensures.state read) ∙ finished read c.args.host.now.kept c.args.call.now a c.requires.may Survey c.requires.purpose)

pub returns-clause-left : goal.returns-clause-left
returns-clause-left g c =
    let a = Read (g.S.Sectors.bytes c.args.sectors.now) in
    let jobs = same_jobs c.args.host.now.kept c.hear_survey.new.self.kept c.args.call.now a c.requires.may c.hear_survey.ensures.state in
    let held = same_holdings c.args.host.now.kept c.hear_survey.new.self.kept c.args.call.now a c.requires.may c.hear_survey.ensures.state in
    let same = same_leases c.args.host.now.kept c.hear_survey.new.self.kept c.args.call.now a c.requires.may c.hear_survey.ensures.state (ap is_joining_purpose c.requires.purpose) in
    (omega (arith, jobs, held, c.answer_survey.ensures.left.0, c.hear_survey.ensures.left.0), omega (arith, same, c.answer_survey.ensures.left.1, c.hear_survey.ensures.left.1))
