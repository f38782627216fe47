use Rattle.sl_area.specs.AreaSizes.{Sizes}
use Rattle.sl_host_answers.proofs.surveys.shown_by.Goals as goal
use Rattle.std.proofs.Common.{ap, subst, sym, ◌∙◌}
use Rattle.std.specs.Prelude.{IsTrue, length, ◌*◌, ◌≡◌}

pub shown_to-requires-clause-run : goal.shown_to-requires-clause-run
shown_to-requires-clause-run g c = ap (λ r. r.sizes) (c.in-Some.ensures.run ∙ c.members.ensures.run)

pub shown_to-requires-clause-cut : goal.shown_to-requires-clause-cut
shown_to-requires-clause-cut g c =
    let same : c.in-Some.member.now.run.sizes ≡ c.args.host.now.kept.config.sizes = ap (λ r. r.sizes) (c.in-Some.ensures.run ∙ c.members.ensures.run) in
    subst (λ (z : Sizes). IsTrue (g.S.Sectors.is_cut c.args.sectors.now z.sector)) (sym same) c.requires.cut

pub shown_to-requires-clause-all : goal.shown_to-requires-clause-all
shown_to-requires-clause-all g c =
    let same : c.in-Some.member.now.run.sizes ≡ c.args.host.now.kept.config.sizes = ap (λ r. r.sizes) (c.in-Some.ensures.run ∙ c.members.ensures.run) in
    subst (λ (z : Sizes). length (g.S.Sectors.bytes c.args.sectors.now) ≡ z.hosts * z.sector) (sym same) c.requires.all
