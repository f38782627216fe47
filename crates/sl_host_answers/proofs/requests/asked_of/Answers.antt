use Rattle.sl_area.specs.AreaSizes.{layout_of}
use Rattle.sl_area.specs.AreaLayout.{leader_of}
use Rattle.sl_host_answers.proofs.requests.asked_of.Goals as goal
use Rattle.std.proofs.Common.{ap, rules, ◌∙◌, ◌≡◌}

pub returns-clause-leader : goal.returns-clause-leader
returns-clause-leader g c =
    let same : c.behind-host.inside.geometry ≡ c.args.host.now.kept.config.sizes = search rules in
    c.leader_of.ensures.exact ∙ ap (λ n. leader_of (layout_of n) (g.S.Sectors.bytes c.args.sectors.now)) same
