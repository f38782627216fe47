-- What a step of a daemon changes, and all of an event, by what is kept.
use Rattle.sl_world_state.specs.Changes.{first_kept}
use Rattle.sl_world_state.specs.Inputs.{input_in}
use Rattle.sl_world_state.specs.KeptWorld.{FlightState, KeptState, MachineState, change_machine_in}
use Rattle.sl_world_state.specs.ShownWorlds.{place_in, write_in}
use Rattle.sl_run.specs.Inputs.{machine_of}
use Rattle.sl_run.specs.Refusals.{sectors_of}
use Rattle.sl_run.specs.Locks.{left_locks, locks_after}
use Rattle.sl_run.specs.declared.event.Event.{Event}
use Rattle.sl_run.specs.declared.header.Header.{Header}
use Rattle.sl_trace.specs.WatchdogConnections.{after_move}
use Rattle.sl_trace.specs.Traces.{held_after, takes_number}
use Rattle.sl_trace.specs.declared.effects.Call.{Call}
use Rattle.sl_trace.specs.declared.effects.Effects.{Effects}
use Rattle.sl_trace.specs.declared.input.Input.TheVariants.{Answer as Told, Spawned}
use Rattle.sl_trace.specs.declared.input.Input.{Input}
use Rattle.sl_trace.specs.declared.input.Numbers.{Numbers}
use Rattle.std.specs.Prelude.{Bool, None, Option, Some, false, filter, fold, if◌then◌else◌, length, map, not, true, [], ℕ, ◌++◌, ◌+◌, ◌==◌, ◌∷◌}

-- A call that was just made.
abbrev pub new_flight : Header → Call → FlightState
new_flight h c =
    record {
      number = c.number;
      place = place_in h c;
      sectors = sectors_of c.op;
      write = write_in h c.op;
      sampled = [];
      samples = 0;
      flying = true;
      landed = false;
      torn = false;
      own = true;
      cut = None;
    }

-- Whether the input answers the call.
abbrev pub is_answered_by : Input → FlightState → Bool
is_answered_by (Told number answer) f = f.number == number
is_answered_by i f = false

-- Whether it answers the start of the child.
abbrev pub is_spawned_by : Input → ℕ → Bool
is_spawned_by (Spawned p ok) child = p == child
is_spawned_by i child = false

-- The numbers that come next after an input with so many calls.
abbrev pub numbers_after : Input → ℕ → Numbers → Numbers
numbers_after i calls n = record { call = n.call + calls; job = (if takes_number i then n.job + 1 else n.job) }

-- The running daemon has taken a step: the call that was answered goes, new ones stand in front.
abbrev pub stepped_machine : Header → Input → Effects → MachineState → MachineState
stepped_machine h i fx s =
    record s {
      connections = fold after_move s.connections fx.moves;
      next = numbers_after i (length fx.calls) s.next;
      starting = filter (λ p. not (is_spawned_by i p)) s.starting ++ map (λ x. x.process) fx.starts;
      flights = fold (λ fs c. new_flight h c ∷ fs) (filter (λ f. not (is_answered_by i f)) s.flights) fx.calls;
      held = held_after fx s.held;
      locks = (locks_after s.next.job i fx s.locks).0;
    }

-- What the machine did itself, without a daemon.
abbrev pub owned_machine : Effects → MachineState → MachineState
owned_machine fx s =
    record s { connections = fold after_move s.connections fx.moves; held = held_after fx s.held; locks = left_locks fx s.locks }

-- One step of the daemon of machine m, or what the machine itself does.
abbrev pub taken_kept : ℕ → Option Input → Effects → KeptState → KeptState
taken_kept m (Some i) fx k = change_machine_in m (stepped_machine k.header i fx) k
taken_kept m None fx k = change_machine_in m (owned_machine fx) k

-- The event with the effects of its step, or the machine's own.
abbrev pub stepped_kept : Event → Effects → KeptState → KeptState
stepped_kept e fx k = taken_kept (machine_of e) (input_in k e) fx (first_kept e k)
