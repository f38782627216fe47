use Rattle.sl_top.proofs.GenLaws.{generates_by, may_generate}
use Rattle.sl_top.proofs.top.generate_from.Goals as goal

pub generate-requires : goal.generate-requires
generate-requires g c = may_generate c.args.hosts c.args.paired c.requires.0 c.requires.1

pub returns : goal.returns
returns g c =
    generates_by c.args.seed c.args.hosts c.args.events c.args.paired (may_generate c.args.hosts c.args.paired c.requires.0 c.requires.1).header _ _ _ _ c.generate.result c.status_of_generated.result c.generate.ensures
    c.status_of_generated.ensures
