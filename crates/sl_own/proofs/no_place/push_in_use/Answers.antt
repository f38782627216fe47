-- Its words, and the number.
use Rattle.sl_own.proofs.TextLaws.{in_use_told}
use Rattle.sl_own.proofs.no_place.push_in_use.Goals as goal
use Rattle.std.proofs.Common.{rules, ◌++◌, ◌≡◌}
use Rattle.std.specs.Fmt.{decimal}
use Rattle.std.specs.Prelude.{codes}

pub returns-clause-ok : goal.returns-clause-ok
returns-clause-ok c =
    let whole : c.as_bytes.result.now ≡ codes "machine in use " ++ decimal c.args.machine = search rules in
    in_use_told c.push_line.result c.args.machine c.args.out.now.items c.as_bytes.result.now c.push_line.new.out.items whole c.push_line.ensures.ok
