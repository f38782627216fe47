use Rattle.sl_cell.proofs.reply_copies.Blanks.copy.Given as goal
use Rattle.sl_cell.specs.Copies.{lists_of}
use Rattle.std.proofs.Common.{length, take, vec_len, ◌+◌, ◌-◌, ◌≡◌, ◌≤◌}
use Rattle.std.specs.Vec.{vec_capacity}

-- the replies before this one are copied, and where none had a list the memory for lists is there
abbrev pub invariant-loop-told : goal.invariant-loop-told
invariant-loop-told l = record {
  items : l.copies.items ≡ take l.told-index l.replies;
  room : vec_len l.copies + (length l.replies - l.told-index) ≤ vec_capacity l.copies;
  states : lists_of (take l.told-index l.replies) ≡ 0 → l.self.states ≡ l.fn.self.states;
  sessions : lists_of (take l.told-index l.replies) ≡ 0 → l.self.sessions ≡ l.fn.self.sessions;
}
