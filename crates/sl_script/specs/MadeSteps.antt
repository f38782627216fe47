-- What a step of a scripted daemon makes.
use Rattle.sl_world_state.specs.Daemons.{IsSoundCall}
use Rattle.sl_trace.specs.declared.effects.Call.{Call}
use Rattle.sl_trace.specs.declared.effects.Effects.{Effects}
use Rattle.sl_trace.specs.declared.effects.Start.{Start}
use Rattle.std.specs.List.{All, range_with_len}
use Rattle.std.specs.Prelude.{List, length, map, ℕ, ◌≡◌, ◌≤◌}

-- How many effects of a class a step makes at most.
abbrev pub most_made : ℕ
most_made = 32

-- Calls that are numbered on from here, sound, and few.
pub record AreCalls (next sector : ℕ) (cs : List Call) : Type 0 where
  pub numbered : map (λ c. c.number) cs ≡ range_with_len next (length cs)
  pub sound : All (IsSoundCall sector) cs
  pub few : length cs ≤ most_made

pub record CallsState : Type 0 where
  pub next : ℕ
  pub sector : ℕ
  pub items : List Call

-- Children that are numbered on from here, and few.
pub record AreStarts (next : ℕ) (ss : List Start) : Type 0 where
  pub numbered : map (λ s. s.process) ss ≡ range_with_len next (length ss)
  pub few : length ss ≤ most_made

pub record StartsState : Type 0 where
  pub next : ℕ
  pub items : List Start

-- No class but these two has more than a step may make.
pub record AreFew (fx : Effects) : Type 0 where
  pub ends : length fx.ends ≤ most_made
  pub signals : length fx.signals ≤ most_made
  pub moves : length fx.moves ≤ most_made
  pub grants : length fx.grants ≤ most_made
  pub replies : length fx.replies ≤ most_made

-- Effects of a step, where the next call and child have these numbers.
pub record AreMade (next sector child : ℕ) (fx : Effects) : Type 0 where
  pub calls : AreCalls next sector fx.calls
  pub starts : AreStarts child fx.starts
  pub few : AreFew fx
