-- The input that an event gives to a running daemon, and what a machine does itself, by what is kept.
use Rattle.sl_world_state.specs.KeptWorld.{FlightState, KeptState, MachineState, flight_in, machine_in, sector_of_call}
use Rattle.sl_world_state.specs.Refusals.{left_in}
use Rattle.sl_run.specs.EventChanges.{ends_of}
use Rattle.sl_run.specs.Inputs.{machine_of}
use Rattle.sl_run.specs.declared.event.Event.TheVariants.{AnswerCall, Do, ExitOf, GiveAsk, GiveCommand, GiveLvm, Reset, SpawnedOf, WakeUp}
use Rattle.sl_run.specs.declared.event.Event.{Event}
use Rattle.sl_trace.specs.Traces.{no_effects, orphans_left}
use Rattle.sl_trace.specs.declared.effects.Effects.{Effects}
use Rattle.sl_trace.specs.declared.input.Answer.TheVariants.{Failed, Read, Written}
use Rattle.sl_trace.specs.declared.input.Input.TheVariants.{Answer as Told, Exit, Line, Number, Spawned, Wake}
use Rattle.sl_trace.specs.declared.input.Input.{Input}
use Rattle.sl_words.specs.Words.{choose}
use Rattle.std.specs.List.{range_with_len}
use Rattle.std.specs.Option.{option_map_or}
use Rattle.std.specs.Prelude.{List, None, Option, Some, false, filter, flat_map, option_and_then, option_map, true, ℕ, ◌++◌, ◌==◌}

-- What a read has once it has sampled so many sectors more.
abbrev pub rest_in : KeptState → FlightState → ℕ → List ℕ
rest_in k f n = f.sampled ++ flat_map (λ i. sector_of_call k.disks f.place i) (range_with_len f.samples n)

-- The answer ok, once all is sampled or landed.
abbrev pub done_in : KeptState → FlightState → Input
done_in k f = elim f.write [ None ↦ Told f.number (Read (rest_in k f (left_in f))) | Some whole ↦ Told f.number Written ]

-- The answer ok of a call as it stands.
abbrev pub ok_in : FlightState → Input
ok_in f = elim f.write [ None ↦ Told f.number (Read f.sampled) | Some whole ↦ Told f.number Written ]

-- Where a daemon runs.
abbrev pub where_running : MachineState → Input → Option Input
where_running s i = choose s.runs i

-- The input that an event gives the daemon of its machine.
abbrev pub input_for : KeptState → Event → MachineState → Option Input
input_for k (WakeUp m) s = where_running s Wake
input_for k (GiveCommand m text) s = where_running s (Line text)
input_for k (GiveLvm m line) s = where_running s (Number line)
input_for k (GiveAsk m) s = option_and_then (λ text. where_running s (Line text)) s.locks.due
input_for k (AnswerCall m c ok) s = option_map (λ f. elim ok [ true ↦ ok_in f | false ↦ Told c Failed ]) (flight_in s c)
input_for k (Do m c) s = option_map (done_in k) (flight_in s c)
input_for k (ExitOf m p) s = where_running s (Exit p)
input_for k (SpawnedOf m p ok) s = where_running s (Spawned p ok)
input_for k e s = None

-- The input that an event gives.
abbrev pub input_in : KeptState → Event → Option Input
input_in k e = option_and_then (input_for k e) (machine_in k (machine_of e))

-- What a machine does without its daemon: at an exit, and at a reset.
abbrev pub own_for : Event → MachineState → Effects
own_for (ExitOf m p) s = record (ends_of (filter (λ g. g.process == p) s.held)) { grants = orphans_left p s.held }
own_for (Reset m) s = ends_of s.held
own_for e s = no_effects

abbrev pub own_in : KeptState → Event → Effects
own_in k e = option_map_or (own_for e) (machine_in k (machine_of e)) no_effects
