-- The command as the argument parser knows it.
use Rattle.clap.specs.Walk.{Rule}
use Rattle.clap.specs.declared.builder.action.ArgAction.TheVariants.{SetTrue}
use Rattle.clap.specs.Simple.{App, Shape, new_app, new_rule, new_shape, with_rule, with_subcommand}
use Rattle.std.specs.Prelude.{List, Some, codes, true, [], ℕ}

-- An option of one letter, which takes a value.
abbrev pub option_rule : List ℕ → ℕ → Rule
option_rule id letter = record (new_rule id) { short = Some letter }

-- `direct ACTION`, with the options of all actions.
abbrev pub direct_app : App
direct_app =
    with_rule (with_rule (with_rule (with_rule (with_rule (with_rule (with_rule (new_app (codes "direct")) (new_rule (codes "action")))
    (option_rule (codes "lockspace") 115)) (option_rule (codes "resource") 114)) (option_rule (codes "hosts") 110)) (option_rule (codes "stretch") 100))
    (option_rule (codes "geometry") 103)) (option_rule (codes "format") 118)

-- `gen SEED HOSTS EVENTS FORMAT`, or `schedule`, of which the last word may be left out.
abbrev pub seed_app : List ℕ → App
seed_app name =
    with_rule (with_rule (with_rule (with_rule (new_app name) (new_rule (codes "seed"))) (new_rule (codes "hosts"))) (new_rule (codes "events")))
    (new_rule (codes "format"))

-- A flag, of a word behind two hyphens.
abbrev pub flag_rule : List ℕ → Rule
flag_rule id = record (new_rule id) { long = Some id; action = Some SetTrue }

-- `live FOLDER`, with its flags.
abbrev pub live_app : App
live_app =
    with_rule (with_rule (with_rule (with_rule (new_app (codes "live")) (new_rule (codes "folder"))) (flag_rule (codes "anew"))) (flag_rule (codes "keep-going")))
    (flag_rule (codes "events"))

-- The program, without a name in front of its words, and without what the parser would add of its own.
abbrev pub bare_shape : Shape
bare_shape =
    record (new_shape (codes "sanlock")) { no_binary_name = true; disable_help_flag = true; disable_help_subcommand = true; subcommand_required = true }

-- With the command that reads a schedule.
abbrev pub reading_app : App
reading_app = with_subcommand (record { top = bare_shape; subs = [] }) (new_shape (codes "replay"))

-- With that which draws it, whose words are up to four, as those of `gen`.
abbrev pub drawing_app : App
drawing_app = with_subcommand reading_app (seed_app (codes "draw")).top

-- With those that run one.
abbrev pub playing_app : App
playing_app = with_subcommand drawing_app (seed_app (codes "gen")).top

-- With that which tells one.
abbrev pub telling_app : App
telling_app = with_subcommand playing_app (seed_app (codes "schedule")).top

-- With all that run no machines.
abbrev pub offline_app : App
offline_app = with_subcommand telling_app direct_app.top

-- The whole command.
abbrev pub command_line : App
command_line = with_subcommand offline_app live_app.top
