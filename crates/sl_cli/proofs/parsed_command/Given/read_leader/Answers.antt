-- The word is read.
use Rattle.sl_cli.proofs.ActionTexts.{leader_wanted}
use Rattle.sl_cli.proofs.parsed_command.Given.read_leader.Goals as goal
use Rattle.std.proofs.Common.{None, Some, rules, sym, ◌≡◌, ◌∙◌}

pub returns-in_ok-resource_of-in-None-Some-None-None : goal.returns-in_ok-resource_of-in-None-Some-None-None
returns-in_ok-resource_of-in-None-Some-None-None c =
    let space : c.args.self.now.lockspace ≡ None = search rules in
    let resource : c.args.self.now.resource ≡ Some c.in-None-Some-None-None.resource.now = search rules in
    let hosts : c.args.self.now.hosts ≡ None = search rules in
    let stretch : c.args.self.now.stretch ≡ None = search rules in
    leader_wanted c.args.most.now _ _ _ _ c.in-None-Some-None-None.resource.now _ space resource hosts stretch
    (sym c.resource_of.ensures ∙ c.in_ok-resource_of-in-None-Some-None-None.was)
