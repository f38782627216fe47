use Rattle.sl_locks.proofs.table.LvmLocks.turn_by.Goals as goal
use Rattle.sl_locks.specs.Replies.{told_as}
use Rattle.sl_locks.specs.Steps.{lock_input, turned_by}
use Rattle.sl_locks.specs.Tables.{locks_of}
use Rattle.sl_run.specs.Locks.{ended_locks}
use Rattle.std.proofs.Common.{ap, ◌∙◌}

pub returns : goal.returns
returns c =
    let i = c.args.input.now in
    record {
      left = c.end_by.ensures (told_as c.hear.result)
          ∙ ap (ended_locks (lock_input i)) (c.hear.ensures ∙ ap (λ o. turned_by i o (locks_of c.args.self.now)) c.split_reply-reply.ensures.found);
      effects = c.split_reply-reply.ensures.rest;
    }
