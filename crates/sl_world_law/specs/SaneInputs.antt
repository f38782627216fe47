-- What an event gives a daemon may come to it.
use Rattle.sl_world_state.specs.Daemons.{MayCome, spare_numbers}
use Rattle.sl_world_state.specs.SaneWorlds.{IsSane}
use Rattle.sl_run.specs.Inputs.{input_of, machine_of}
use Rattle.sl_run.specs.Refusals.{may_happen}
use Rattle.sl_run.specs.Worlds.{Daemon, Machine, World, machine_at, next_numbers, reading_now}
use Rattle.sl_run.specs.declared.event.Event.{Event}
use Rattle.sl_run.specs.declared.header.Header.{Header}
use Rattle.sl_text.specs.Forms.{Form}
use Rattle.sl_trace.specs.declared.command.Command.{Command}
use Rattle.sl_trace.specs.declared.input.Input.{Input}
use Rattle.sl_trace.specs.declared.input.Numbers.{Numbers}
use Rattle.std.specs.Prelude.{List, Some, true, ◌-◌, ◌<◌, ◌^◌, ◌≡◌}

-- Numbers are left for a step's calls and jobs.
abbrev pub HasNumbers : Numbers → Type 0
HasNumbers n = (n.call < 2 ^ 63 - spare_numbers) × (n.job < 2 ^ 63 - spare_numbers)

-- To the daemon that runs on the event's machine, while numbers are left.
abbrev pub InputsMayCome : Type 0
InputsMayCome =
    (commands : Header → List (Form Command)) (w : World) → IsSane commands w → (e : Event) → may_happen w e ≡ true → (i : Input) → input_of w e ≡ Some i
    → (a : Machine) (d : Daemon) → machine_at w (machine_of e) ≡ Some a → a.daemon ≡ Some d → HasNumbers (next_numbers a)
    → MayCome d.setting d.trace (reading_now a) i
