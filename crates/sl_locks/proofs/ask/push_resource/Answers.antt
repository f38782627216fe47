use Rattle.sl_locks.proofs.AskTexts.{resource_written}
use Rattle.sl_locks.proofs.ask.push_resource.Goals as goal

pub returns : goal.returns
returns c =
    resource_written c.args.group.now c.args.name.now _ c.args.offset c.args.out.now.items _ _ _ c.as_slice.ensures c.in_ok-push_lockspace.ensures
    c.in_ok-push_part.ensures c.in_ok-push_place.ensures
