use Rattle.sl_locks.proofs.AskTexts.{marked_behind}
use Rattle.sl_locks.proofs.ask.push_moded.Goals as goal

pub returns-in-Shared : goal.returns-in-Shared
returns-in-Shared c =
    marked_behind c.args.geometry.now.area c.args.lock.now c.args.mode c.args.out.now.items _ _ c.push_text.result c.in_ok-push_lock.ensures c.in-Shared.is c.push_text.ensures
