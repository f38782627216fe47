-- Lists that commands are answered by, and memory for them.
use Rattle.sl_area.specs.AreaSizes.{Sizes}
use Rattle.sl_trace.specs.declared.command.Command.TheVariants.{HostStatus, Status}
use Rattle.sl_trace.specs.declared.command.Command.{Command}
use Rattle.std.specs.Prelude.{Bool, false, true, ℕ, ◌≤◌}

-- For how many states and sessions there is memory.
pub record ListsState : Type 0 where
  pub states : ℕ
  pub sessions : ℕ

-- Whether the command is answered by a list: only such an answer takes memory.
abbrev pub tells_list : Command → Bool
tells_list (HostStatus a) = true
tells_list Status = true
tells_list c = false

-- There is memory for the list that the command is answered by, of a host with areas of these sizes and no more members than that.
abbrev pub FitsLists : Sizes → ℕ → Command → ListsState → Type 0
FitsLists z seats (HostStatus a) l = z.hosts ≤ l.states
FitsLists z seats Status l = seats ≤ l.sessions
FitsLists z seats c l = Unit {0}
