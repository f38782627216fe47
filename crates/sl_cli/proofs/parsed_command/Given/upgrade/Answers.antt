-- Both words are read.
use Rattle.sl_cli.proofs.ActionTexts.{upgrade_wanted}
use Rattle.sl_cli.proofs.parsed_command.Given.upgrade.Goals as goal
use Rattle.std.proofs.Common.{None, Some, rules, sym, ◌≡◌, ◌∙◌}

pub returns-in_ok-sizes_for-in-None-Some-Some-None : goal.returns-in_ok-sizes_for-in-None-Some-Some-None
returns-in_ok-sizes_for-in-None-Some-Some-None c =
    let space : c.args.self.now.lockspace ≡ None = search rules in
    let resource : c.args.self.now.resource ≡ Some c.in-None-Some-Some-None.resource.now = search rules in
    let hosts : c.args.self.now.hosts ≡ Some c.in-None-Some-Some-None.hosts.now = search rules in
    let stretch : c.args.self.now.stretch ≡ None = search rules in
    upgrade_wanted c.args.most.now _ _ _ _ c.in-None-Some-Some-None.resource.now c.in-None-Some-Some-None.hosts.now _ _ space resource hosts stretch
    (sym c.resource_of.ensures ∙ c.in_ok-resource_of-in-None-Some-Some-None.was) (sym c.sizes_for.ensures ∙ c.in_ok-sizes_for-in-None-Some-Some-None.was)
