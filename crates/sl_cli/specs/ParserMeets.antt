-- What the parser makes of the words, and what that says.
use Rattle.clap.specs.Faults.{fault_of}
use Rattle.clap.specs.Simple.{subcommand_of}
use Rattle.clap.specs.Walk.{Row, Text, first_of}
use Rattle.sl_cli.specs.Actions.{Given, action_in}
use Rattle.sl_cli.specs.ParserShape.{command_line}
use Rattle.sl_cli.specs.CommandWords.{Placing, Seeding, generated, placed_in, scheduled, seeding_in, span_in}
use Rattle.sl_cli.specs.declared.parsed_command.Met.{Met}
use Rattle.sl_cli.specs.declared.command_words.Words.TheVariants.{Direct, Replay}
use Rattle.sl_cli.specs.declared.command_words.Words.{Words}
use Rattle.std.specs.Prelude.{Bool, List, None, Option, Some, bytes_eq, codes, false, if◌then◌else◌, option_map, [], ◌≡◌}

-- What was given, by what was found of each argument.
abbrev pub given_in : List Row → Given
given_in rows = record {
  action = first_of (codes "action") rows;
  lockspace = first_of (codes "lockspace") rows;
  resource = first_of (codes "resource") rows;
  hosts = first_of (codes "hosts") rows;
  stretch = first_of (codes "stretch") rows;
  geometry = first_of (codes "geometry") rows;
  format = first_of (codes "format") rows;
}

-- The words of a seed, of hosts, of events and of a format, by what was found.
abbrev pub seeding_of : List Row → Seeding
seeding_of rows = record {
  seed = first_of (codes "seed") rows;
  hosts = first_of (codes "hosts") rows;
  events = first_of (codes "events") rows;
  format = first_of (codes "format") rows;
}

-- A flag was given: what was found of it is that.
abbrev pub is_set : Option Text → Bool
is_set None = false
is_set (Some w) = bytes_eq w (codes "true")

-- A folder and the flags that were given, by what was found.
abbrev pub placing_of : List Row → Placing
placing_of rows = record {
  folder = first_of (codes "folder") rows;
  anew = is_set (first_of (codes "anew") rows);
  keeps = is_set (first_of (codes "keep-going") rows);
  events = is_set (first_of (codes "events") rows);
}

-- The command of this name that was met, with what was given to it.
abbrev pub named_met : Text → List Row → Option Met
named_met name rows =
    if bytes_eq name (codes "replay") then Some Met.Replay
    else if bytes_eq name (codes "draw") then Some (Met.Draw (seeding_of rows))
    else if bytes_eq name (codes "gen") then Some (Met.Generate (seeding_of rows))
    else if bytes_eq name (codes "schedule") then Some (Met.Schedule (seeding_of rows))
    else if bytes_eq name (codes "direct") then Some (Met.Direct (given_in rows))
    else if bytes_eq name (codes "live") then Some (Met.Live (placing_of rows))
    else None

-- The command that was met.
abbrev pub met_in : Option (Text × List Row) → Option Met
met_in None = None
met_in (Some p) = named_met p.0 p.1

-- What it says.
abbrev pub said_by : Met → Option Words
said_by Met.Replay = Some Replay
said_by (Met.Draw s) = span_in s.seed s.hosts s.events s.format
said_by (Met.Generate s) = option_map generated (seeding_in s.seed s.hosts s.events s.format)
said_by (Met.Schedule s) = option_map scheduled (seeding_in s.seed s.hosts s.events s.format)
said_by (Met.Direct given) = option_map (λ a. Direct a) (action_in given)
said_by (Met.Live p) = placed_in p

-- The parser takes the words, and meets this command.
abbrev pub TakenAs : List Text → Option Met → Type 0
TakenAs ws met = (fault_of command_line ws ≡ []) × (met ≡ met_in (subcommand_of command_line ws))

-- The parser doesn't take the words.
abbrev pub IsRefused : List Text → Type 0
IsRefused ws = fault_of command_line ws ≡ [] → ⊥
