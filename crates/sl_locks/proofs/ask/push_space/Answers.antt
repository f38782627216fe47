use Rattle.sl_locks.proofs.AskTexts.{space_written}
use Rattle.sl_locks.proofs.ask.push_space.Goals as goal

pub returns : goal.returns
returns c =
    space_written c.args.group.now c.args.id _ c.args.out.now.items _ _ _ c.from.ensures c.in_ok-push_lockspace.ensures c.in_ok-push_number_part.ensures
    c.in_ok-push_place.ensures
