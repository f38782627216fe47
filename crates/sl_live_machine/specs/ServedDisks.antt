-- The disks that the workers of a machine leave: made of those that they had, by the calls of the machine's history.
use Rattle.sl_book.specs.Closings.{AreBelow, AreExact}
use Rattle.sl_cell.specs.Histories.{Signed, trace_of}
use Rattle.sl_cell.specs.Parts.{calls_of}
use Rattle.sl_cell.specs.Seats.{SeatState}
use Rattle.sl_cell.specs.declared.part.Part.TheVariants.{Delta, Resource}
use Rattle.sl_cell.specs.declared.part.Part.{Part}
use Rattle.sl_live.specs.declared.disks.Disk.{Disk}
use Rattle.sl_live_machine.specs.ServedActs.{StartsOn}
use Rattle.sl_live_machine.specs.ThreadSeats.{AreSeats, IsRun, entries_by, number_of}
use Rattle.sl_live_machine.specs.ThreadTurns.{AreMade, WorksOn}
use Rattle.sl_live_machine.specs.declared.starter.Starter.{Starter}
use Rattle.sl_outside.specs.declared.act.Act.{Act}
use Rattle.sl_trace.specs.Traces.{IsTrace, Setting}
use Rattle.sl_trace.specs.declared.effects.Entry.{Entry}
use Rattle.std.specs.Prelude.{List, Ok, Option, Result, length, take, ℕ, ◌≡◌, ◌≤◌}

-- ---- seats

-- Seats of a machine's threads, of which the workers' and the starter's are those with which these three ended.
pub record AreGathered {E : Type 0} (st : Setting) (delta_end resource_end starter_end : Result SeatState E) (seats : List SeatState) : Type 0 where
  pub are : AreSeats st seats
  pub delta_is : delta_end ≡ Ok are.delta
  pub resource_is : resource_end ≡ Ok are.resource
  pub starter_is : starter_end ≡ Ok are.starter

-- Seats of a machine's threads, whose workers had these disks and have those, and whose starter began with this spawner and is this one.
pub record AreServing {A P : Type 0} (content : A → Option (List ℕ)) (faults : A → ℕ) (told : P → Option (List Act)) (sector : ℕ) (st : Setting)
    (delta delta_later resource resource_later : List (Disk A)) (spawner : P) (starter : Starter P) (seats : List SeatState) : Type 0 where
  pub are : AreSeats st seats
  pub delta_on : WorksOn content faults sector st Delta delta delta_later are.delta
  pub resource_on : WorksOn content faults sector st Resource resource resource_later are.resource
  pub starter_on : StartsOn st starter.killed (told spawner) (told starter.spawner) are.starter

-- What these seats counted makes up this history, which the daemon could have.
pub record AreOf (st : Setting) (h : List Signed) (seats : List SeatState) : Type 0 where
  pub exact : AreExact 0 seats h
  pub below : AreBelow (length seats) h
  pub trace : IsTrace st (trace_of h)

-- ---- disks

-- By the calls that this history made of a part, in the order in which it made them, and by them alone, the disks of the part's worker went from these
-- to those: by as many of them as were taken. The worker's entries give just the answers that they got; an answer that none gives answered nothing that
-- was open.
pub record ServedDisks {A : Type 0} (content : A → Option (List ℕ)) (faults : A → ℕ) (sector : ℕ) (st : Setting) (part : Part) (h : List Entry)
    (disks later : List (Disk A)) : Type 0 where
  pub run : IsRun st h
  pub taken : ℕ
  pub most : taken ≤ length (calls_of part h)
  pub made : AreMade content faults sector st run.signed (take taken (calls_of part h)) (entries_by (number_of part) run.signed) disks later
