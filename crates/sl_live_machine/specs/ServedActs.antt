-- The starts that a machine's starter made, by the machine's history.
use Rattle.sl_book.specs.Logs.{entries}
use Rattle.sl_book.specs.Seats.{IsMine}
use Rattle.sl_cell.specs.Seats.{SeatState}
use Rattle.sl_live.specs.CarriedOut.{AreStarted, starts_of}
use Rattle.sl_live_machine.specs.ThreadSeats.{IsRun, entries_by, starter_number}
use Rattle.sl_outside.specs.Acts.{Grows, Tells}
use Rattle.sl_outside.specs.declared.act.Act.{Act}
use Rattle.sl_trace.specs.Traces.{Setting}
use Rattle.sl_trace.specs.declared.effects.Entry.{Entry}
use Rattle.std.specs.Prelude.{Bool, List, Option, length, take, ℕ, ◌≤◌}

-- The starter made the starts of what it has seen in the order in which they were ordered, from the first on, as many as it took, and told just what they
-- came to. One need not be made to whose process a signal was sent before, nor any where all children were killed.
pub record StartsOn (st : Setting) (killed : Bool) (before after : Option (List Act)) (s : SeatState) : Type 0 where
  pub given : List Entry
  pub mine : IsMine s given
  pub acts : List Act
  pub grows : Grows before after acts
  pub most : s.taken ≤ length (starts_of (entries s.front))
  pub made : AreStarted st s.front killed (take s.taken (starts_of (entries s.front))) given acts

-- A spawner was asked for just the starts of this history, in the order in which they were ordered, from the first on, as many as were taken. The starter's
-- entries tell just what they came to; what none tells answered nothing that was open.
pub record ServedStarts (st : Setting) (h : List Entry) (killed : Bool) (told : Option (List Act)) : Type 0 where
  pub run : IsRun st h
  pub taken : ℕ
  pub most : taken ≤ length (starts_of h)
  pub acts : List Act
  pub tells : Tells told acts
  pub made : AreStarted st run.signed killed (take taken (starts_of h)) (entries_by starter_number run.signed) acts
