-- What a thread knows and counts of a history.
use Rattle.sl_book.specs.Seats.{SeatState as SeatStateOf}
use Rattle.sl_trace.specs.declared.effects.Entry.{Entry}

-- A thread's number, how many entries it gave, how many calls of its part were taken, and how much of the history it has seen.
abbrev pub SeatState : Type 0
SeatState = SeatStateOf Entry
