-- A daemon with the front of the history that led to it.
use Rattle.sl_cell.specs.Histories.{Signed, trace_of}
use Rattle.sl_trace.specs.Traces.{IsTrace, Setting, Trace, is_expected, last_reading, next_call, next_job}
use Rattle.sl_trace.specs.declared.effects.Effects.{Effects}
use Rattle.sl_trace.specs.declared.input.Input.{Input}
use Rattle.sl_trace.specs.declared.input.Numbers.{Numbers}
use Rattle.sl_words.specs.Bounds.{moments}
use Rattle.sl_world_state.specs.Daemons.{IsNumbered, MayCome, entry_of, spare_numbers}
use Rattle.sl_world_state.specs.declared.daemon.Most.{Most}
use Rattle.std.specs.Prelude.{Bool, List, length, true, ℕ, ◌-◌, ◌<◌, ◌^◌, ◌∷◌, ◌≡◌, ◌≤◌}

-- A daemon, whether it is whole, and what led to it. The oldest entry stands first in a history; in a trace the newest.
pub record LeadState (D : Type 0) : Type 0 where
  pub daemon : D
  pub whole : Bool
  pub history : List Signed

-- A daemon that is whole stands for the history. The history's last reading and next numbers are kept.
pub record IsLead {D : Type 0} (Stands : D → Setting → Trace → Type 0) (st : Setting) (d : D) (whole : Bool) (h : List Signed) (reading : ℕ) (next : Numbers) : Type 0 where
  pub stands : whole ≡ true → Stands d st (trace_of h)
  pub trace : IsTrace st (trace_of h)
  pub last : reading ≡ last_reading st (trace_of h)
  pub below : reading < moments
  pub calls : next.call ≡ next_call st (trace_of h)
  pub jobs : next.job ≡ next_job st (trace_of h)

-- There are numbers for a step behind so many entries, and memory for its calls.
pub record HasNumbers (next : Numbers) (m : Most) (count : ℕ) : Type 0 where
  pub call : next.call < 2 ^ 63 - spare_numbers
  pub job : next.job < 2 ^ 63 - spare_numbers
  pub calls : m.calls ≤ 2 ^ 28
  pub short : count < 2 ^ 60

abbrev pub next_numbers : Setting → Trace → Numbers
next_numbers st es = record { call = next_call st es; job = next_job st es }

-- The daemon stands for the history, the input may come to it, and there are numbers for its step.
pub record IsReady {D : Type 0} (Stands : D → Setting → Trace → Type 0) (st : Setting) (k : LeadState D) (m : Most) (i : Input) : Type 0 where
  pub stands : Stands k.daemon st (trace_of k.history)
  pub expected : is_expected st (trace_of k.history) i ≡ true
  pub numbers : HasNumbers (next_numbers st (trace_of k.history)) m (length k.history)

-- The entry of a step, signed.
abbrev pub signed_of : ℕ → ℕ → Input → Effects → Signed
signed_of by now i fx = record { by = by; entry = entry_of now i fx }

-- The daemon made this step behind the history.
pub record IsMade {D : Type 0} (Stands : D → Setting → Trace → Type 0) (st : Setting) (d : D) (h : List Signed) (s : Signed) : Type 0 where
  pub stands : Stands d st (s.entry ∷ trace_of h)
  pub may : MayCome st (trace_of h) s.entry.reading s.entry.input
  pub numbered : IsNumbered st (trace_of h) s.entry.effects

-- What it does is within what was said.
pub record IsFew (m : Most) (fx : Effects) : Type 0 where
  pub moves : length fx.moves ≤ m.moves
  pub calls : length fx.calls ≤ m.calls

-- The element is what this thread gave, at this reading or a later one.
pub record IsEntry (by now : ℕ) (i : Input) (s : Signed) : Type 0 where
  pub number : s.by ≡ by
  pub later : now ≤ s.entry.reading
  pub same : s.entry.input ≡ i
