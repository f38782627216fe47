-- Machines as they are kept.
use Rattle.sl_world_state.specs.KeptWorld.{MachineState}
use Rattle.sl_world_state.specs.Daemons.{IsSoundOp}
use Rattle.sl_world_state.specs.Steps.{new_flight}
use Rattle.sl_machine.specs.declared.heard_inputs.Heard.{Heard}
use Rattle.sl_run.specs.declared.header.Header.{Header}
use Rattle.sl_trace.specs.WatchdogConnections.{after_move}
use Rattle.sl_trace.specs.Traces.{held_after}
use Rattle.sl_trace.specs.declared.effects.Call.{Call}
use Rattle.sl_trace.specs.declared.effects.Effects.{Effects}
use Rattle.sl_trace.specs.declared.input.Input.{Input}
use Rattle.sl_words.specs.Words.{some_is}
use Rattle.std.specs.List.{range_with_len}
use Rattle.sl_world_state.specs.declared.daemon.Most.{Most}
use Rattle.sl_machine.specs.declared.machine.Machine.{Machine}
use Rattle.sl_locks.specs.Replies.{told_as}
use Rattle.sl_locks.specs.declared.line_steps.StepTold.{StepTold}
use Rattle.sl_run.specs.Locks.{Locks, Told, locks_after, told_effects}
use Rattle.std.specs.Prelude.{Bool, Contains, filter, fold, if◌then◌else◌, length, map, not, true, ◌++◌, ◌+◌, ◌<◌, ◌==◌, ◌^◌, ◌∷◌, ◌≡◌, ◌≤◌}
use Rattle.std.specs.Vec.{vec_capacity, vec_len}
use Rattle.std.specs.VecDeque.{deque_capacity, deque_len}

-- What is kept of a machine, with the locks that its table stands for.
unfoldable pub machine_state : {L : Type 0} → (L → Locks) → Machine L → MachineState
machine_state locks a =
    record {
      up = a.up;
      used = a.used;
      runs = a.runs;
      clock = a.clock;
      kept = a.kept;
      connections = a.connections.connections;
      next = record { call = a.flights.next; job = a.job };
      starting = a.starting.items;
      flights = a.flights.items.items;
      held = a.held.items;
      lingering = a.lingering.items;
      locks = locks a.locks;
    }

-- A machine has room for a step that makes no more than that.
pub record HasRoom {L : Type 0} (has_room : L → Bool) (m : Most) (a : Machine L) : Type 0 where
  pub moves : m.moves ≤ a.connections.room
  pub grants : vec_len a.held + m.grants ≤ vec_capacity a.held
  pub starts : vec_len a.starting + m.starts ≤ vec_capacity a.starting
  pub calls : deque_len a.flights.items + m.calls ≤ deque_capacity a.flights.items
  pub locks : has_room a.locks ≡ true

-- It has room for what it does itself.
pub record HasOwnRoom {L : Type 0} (a : Machine L) (fx : Effects) : Type 0 where
  pub moves : length fx.moves ≤ a.connections.room
  pub grants : vec_len a.held + length fx.grants ≤ vec_capacity a.held

-- A step that it has room for: calls are numbered on and write records, and numbers are left.
pub record TakesStep {L : Type 0} (has_room : L → Bool) (a : Machine L) (fx : Effects) : Type 0 where
  pub most : Most
  pub room : HasRoom has_room most a
  pub moves : length fx.moves ≤ most.moves
  pub grants : length fx.grants ≤ most.grants
  pub starts : length fx.starts ≤ most.starts
  pub calls : length fx.calls ≤ most.calls
  pub numbered : map (λ c. c.number) fx.calls ≡ range_with_len a.flights.next (length fx.calls)
  pub sound : (c : Call) → Contains fx.calls c → IsSoundOp c.op
  pub numbers : (a.flights.next < 2 ^ 63) × (a.job < 2 ^ 63)

-- The running daemon has taken a step, by what its machine takes of the input, but for lvmlockd's locks.
abbrev pub put_away_by : Header → Heard → Effects → MachineState → MachineState
put_away_by h d fx s =
    record s {
      connections = fold after_move s.connections fx.moves;
      next = record { call = s.next.call + length fx.calls; job = (if d.numbered then s.next.job + 1 else s.next.job) };
      starting = filter (λ q. not (some_is (λ p. p == q) d.spawned)) s.starting ++ map (λ x. x.process) fx.starts;
      flights = fold (λ fs c. new_flight h c ∷ fs) (filter (λ f. not (some_is (λ n. f.number == n) d.answered)) s.flights) fx.calls;
      held = held_after fx s.held;
    }

-- .. and its locks.
abbrev pub stepped_by : Header → Heard → Input → Effects → MachineState → MachineState
stepped_by h d i fx s = record (put_away_by h d fx s) { locks = (locks_after s.next.job i fx s.locks).0 }

-- The reply to lvmlockd's line, if it has come.
abbrev pub told_by : Input → Effects → MachineState → Told
told_by i fx s = (locks_after s.next.job i fx s.locks).1

-- What is told of a step: its effects without the reply to an ask, and that reply.
pub record HasTold (told : StepTold) (i : Input) (fx : Effects) (s : MachineState) : Type 0 where
  pub effects : told.effects ≡ told_effects s.next.job i fx s.locks
  pub line : told_as told.line ≡ told_by i fx s
