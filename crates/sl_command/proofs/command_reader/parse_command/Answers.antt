use Rattle.sl_area.specs.AreaSizes.{layout_of}
use Rattle.sl_command.proofs.CommandLaws.{few_hosts, parsed_as}
use Rattle.sl_command.proofs.command_reader.parse_command.Goals as goal

pub returns-clause-spelled : goal.returns-clause-spelled
returns-clause-spelled c =
    let sizes = c.args.geometry.now in
    parsed_as (layout_of sizes) (few_hosts sizes c.hosts-hosts.ensures.geometry) c.args.text.now c.parsed.result c.parsed.ensures
