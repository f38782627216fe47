-- A host as code keeps it, and how a change of it is said.
use Rattle.sl_host_state.specs.KeptState.{HostKept, HostState, state_of}
use Rattle.sl_trace.specs.declared.command.Command.{Command}
use Rattle.std.specs.Prelude.{List, Result, ℕ, ◌+◌, ◌≡◌, ◌≤◌}

-- A host; how many more calls it may make in the step, and how many more other effects; how many of each class of these the step makes at
-- most, and how many calls; for how many members there is memory.
pub record HostView : Type 0 where
  pub kept : HostKept
  pub left : ℕ
  pub calls : ℕ
  pub most : ℕ
  pub most_calls : ℕ
  pub seats : ℕ

-- How much the step makes at most stays, and for how many members there is memory.
abbrev pub SameMost : HostView → HostView → Type 0
SameMost old new = (new.most ≡ old.most) × (new.most_calls ≡ old.most_calls) × (new.seats ≡ old.seats)

-- What a line reads as: a command, or the column of the first word that doesn't fit.
abbrev pub ReadAs : Type 0
ReadAs = Result Command ℕ

-- Its state, however lines are read, becomes this of it.
abbrev pub Becomes : HostView → HostView → (HostState → HostState) → Type 0
Becomes old new f = (read : List ℕ → Result Command ℕ) → state_of read new.kept ≡ f (state_of read old.kept)

-- What it is made of stays, the reading of the step, how much the step makes at most, and for how many members there is memory.
abbrev pub SameRun : HostView → HostView → Type 0
SameRun old new = (new.kept.config ≡ old.kept.config) × (new.kept.reading ≡ old.kept.reading) × SameMost old new

-- It uses no more than so many calls, and so many other effects.
abbrev pub Spends : HostView → HostView → ℕ → ℕ → Type 0
Spends old new n k = (old.left ≤ new.left + n) × (old.calls ≤ new.calls + k)
