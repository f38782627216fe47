-- For how much there is memory.
use Rattle.sl_cell.specs.declared.reply_copies.Blanks.{Blanks}
use Rattle.sl_cell.specs.declared.step_copies.Spare.{Spare}
use Rattle.sl_world_state.specs.declared.daemon.Most.{Most}
use Rattle.std.specs.Prelude.{ℕ, ◌≤◌}

-- There is memory for so many replies, with a list of so many elements.
pub record HasRoom (count longest : ℕ) (b : Blanks) : Type 0 where
  pub replies : count ≤ b.replies
  pub states : longest ≤ b.states
  pub sessions : longest ≤ b.sessions

-- There is memory for a copy of so much.
pub record Holds (s : Spare) (m : Most) (longest : ℕ) : Type 0 where
  pub ends : m.ends ≤ s.ends
  pub signals : m.signals ≤ s.signals
  pub moves : m.moves ≤ s.moves
  pub grants : m.grants ≤ s.grants
  pub starts : m.starts ≤ s.starts
  pub replies : HasRoom m.replies longest s.replies
  pub calls : m.calls ≤ s.calls
