-- What lies under the lock.
use Rattle.sl_cell.specs.Parts.{IsLeft}
use Rattle.sl_cell.specs.declared.part.Part.TheVariants.{Delta, Resource}
use Rattle.sl_cell.specs.declared.part.Part.{Part}
use Rattle.sl_cell.specs.declared.queue.Queue.{Queue}
use Rattle.sl_cell.specs.declared.rest.Rest.{Rest}
use Rattle.sl_book.specs.Logs.{entries}
use Rattle.sl_cell.specs.Histories.{Signed, trace_of}
use Rattle.sl_trace.specs.Traces.{Setting}
use Rattle.sl_trace.specs.WatchdogConnections.{connections}
use Rattle.sl_trace.specs.declared.effects.Call.{Call}
use Rattle.sl_trace.specs.declared.effects.Entry.{Entry}
use Rattle.sl_world_state.specs.declared.daemon.Most.{Most}
use Rattle.std.specs.Prelude.{Bool, List, None, Option, Some, [], ℕ, ◌++◌, ◌+◌, ◌<◌, ◌∷◌, ◌≡◌, ◌≤◌}
use Rattle.std.specs.Vec.{vec_capacity, vec_len}
use Rattle.std.specs.VecDeque.{deque_capacity, deque_len}
use mathlib.Core.List.{IsPrefix}

-- The calls of a part that nobody took, and how many were taken.
pub record Left : Type 0 where
  pub calls : List Call
  pub taken : ℕ

abbrev pub left_in : Queue → Left
left_in q = record { calls = q.calls.items; taken = q.taken }

-- The history, whether the daemon is whole, the calls that are left, how much was handed out, and the entries that were not.
pub record KeptState : Type 0 where
  pub whole : Bool
  pub history : List Signed
  pub delta : Left
  pub resource : Left
  pub handed : List Signed
  pub waiting : List Entry

-- What was handed out is a beginning of the history, and these entries are the others.
pub record IsWaiting (h handed : List Signed) (waiting : List Entry) : Type 0 where
  pub behind : IsPrefix handed h
  pub others : entries h ≡ entries handed ++ waiting

-- What is kept of a history is what the history says.
pub record IsRest (st : Setting) (h handed : List Signed) (r : Rest) : Type 0 where
  pub connected : r.connections.connections ≡ connections st (trace_of h)
  pub delta : IsLeft Delta (entries h) r.delta.taken r.delta.calls.items
  pub resource : IsLeft Resource (entries h) r.resource.taken r.resource.calls.items
  pub waits : IsWaiting h handed r.waiting.items

abbrev pub queue_of : Part → Rest → Queue
queue_of Delta r = r.delta
queue_of Resource r = r.resource

abbrev pub other : Part → Part
other Delta = Resource
other Resource = Delta

-- The first call of a queue went, if there is one.
abbrev pub Goes : Queue → Queue → Option Call → Type 0
Goes q q' (Some c) = (q.calls.items ≡ c ∷ q'.calls.items) × (q'.taken ≡ q.taken + 1)
Goes q q' None = (q.calls.items ≡ []) × (q'.calls.items ≡ []) × (q'.taken ≡ q.taken)

-- The first call of a part went, if there is one; all else is as it was.
pub record GoesOf (part : Part) (r r' : Rest) (o : Option Call) : Type 0 where
  pub here : Goes (queue_of part r) (queue_of part r') o
  pub there : queue_of (other part) r' ≡ queue_of (other part) r
  pub connected : r'.connections ≡ r.connections
  pub waits : r'.waiting ≡ r.waiting

-- There is memory for a step of so much.
pub record HasPlaces (r : Rest) (m : Most) : Type 0 where
  pub moves : m.moves ≤ r.connections.room
  pub deltas : deque_len r.delta.calls + m.calls ≤ deque_capacity r.delta.calls
  pub resources : deque_len r.resource.calls + m.calls ≤ deque_capacity r.resource.calls
  pub waits : vec_len r.waiting < vec_capacity r.waiting
