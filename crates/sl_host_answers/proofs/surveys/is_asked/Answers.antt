use Rattle.sl_area.specs.AreaSizes.{Sizes, layout_of}
use Rattle.sl_host_answers.proofs.surveys.is_asked.Goals as goal
use Rattle.sl_host_law.specs.Answers.Surveys.{is_asked_by}
use Rattle.std.proofs.Common.{ap, ◌∙◌}

pub returns : goal.returns
returns g c = c.is_asked.ensures ∙ ap (λ (z : Sizes). is_asked_by (layout_of z) c.args.member.now.state.who (g.S.Sectors.bytes c.args.sectors.now)) c.requires.run
