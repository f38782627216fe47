-- What stands behind a command's verb, as it is read.
use Rattle.sl_area.specs.AreaSizes.{Layout}
use Rattle.sl_command.specs.Arguments.{is_moded_word, is_request_word, moded_of_word, request_of_word}
use Rattle.sl_text.specs.Forms.{exactly, word_at}
use Rattle.sl_text.specs.Names.{is_path}
use Rattle.sl_text.specs.Numbers.{hex_bytes, is_hex_word, is_number_that, number_of}
use Rattle.sl_text.specs.Walks.{Unread, at_end, next_as, next_passes, past_word, past_words, read_each}
use Rattle.sl_trace.specs.CommandForms.{is_lockspace_word, is_process_word, is_resource_word, lockspace_of_word, resource_of_word}
use Rattle.sl_trace.specs.declared.command.BadCommand.{BadCommand}
use Rattle.sl_trace.specs.declared.command.Command.TheVariants.{Acquire, Convert, Release, ReleaseOrphan, Request, RunProgram, SetKillpath, SetLvb, TakeOver}
use Rattle.sl_trace.specs.declared.command.Command.{Command}
use Rattle.sl_trace.specs.declared.command.LockspaceArg.{LockspaceArg}
use Rattle.sl_trace.specs.declared.command.ResourceArg.{ResourceArg}
use Rattle.sl_words.specs.Results.{◌>>=◌}
use Rattle.std.specs.Int.{is_in_range}
use Rattle.std.specs.Prelude.{Bool, Err, List, None, Ok, Option, Result, Some, codes, false, true, if◌then◌else◌, [], ℕ, ◌==◌, ◌∷◌}

-- `-s` and a lockspace.
abbrev pub lockspace_behind : Layout → Unread → Result LockspaceArg ℕ
lockspace_behind g u = read_each (exactly (codes "-s") ∷ is_lockspace_word g ∷ []) (λ ws. lockspace_of_word (word_at ws 1)) u

-- The tests of `-p` and a process.
abbrev pub process_tests : List (List ℕ → Bool)
process_tests = exactly (codes "-p") ∷ is_process_word ∷ []

-- The process that they give.
abbrev pub process_behind : Unread → Result ℕ ℕ
process_behind u = read_each process_tests (λ ws. number_of (word_at ws 1)) u

-- The tests of `-c` and a program's path.
abbrev pub program_tests : List (List ℕ → Bool)
program_tests = exactly (codes "-c") ∷ is_path ∷ []

-- The path that they give.
abbrev pub program_behind : Unread → Result (List ℕ) ℕ
program_behind u = read_each program_tests (λ ws. word_at ws 1) u

-- A process and the bytes of its value.
abbrev pub with_value : ℕ → List ℕ → ℕ × List ℕ
with_value process bytes = (process, bytes)

-- The tests of `-p`, a process, `-d` and the digits of a value.
abbrev pub value_tests : List (List ℕ → Bool)
value_tests = exactly (codes "-p") ∷ is_process_word ∷ exactly (codes "-d") ∷ is_hex_word 2 512 ∷ []

-- The process and the bytes that they give.
abbrev pub value_behind : Unread → Result (ℕ × List ℕ) ℕ
value_behind u = read_each value_tests (λ ws. with_value (number_of (word_at ws 1)) (hex_bytes (word_at ws 3))) u

-- The tests of `-f` and the force that clears a request.
abbrev pub clearing_tests : List (List ℕ → Bool)
clearing_tests = exactly (codes "-f") ∷ exactly (codes "0") ∷ []

-- The tests of `-f` and a force that asks.
abbrev pub asking_tests : List (List ℕ → Bool)
asking_tests = exactly (codes "-f") ∷ is_number_that (is_in_range 1 2) ∷ []

-- The force that goes with the lver.
abbrev pub force_with : Bool → Unread → Result ℕ ℕ
force_with true u = read_each clearing_tests (λ _. 0) u
force_with false u = read_each asking_tests (λ ws. number_of (word_at ws 1)) u

-- A flag.
abbrev pub flag_read : List ℕ → Unread → Result (Unit {0}) ℕ
flag_read flag u = next_as (exactly flag) (λ _. tt) u

-- `-r`, a resource's word, and what is read behind it.
abbrev pub with_resource : {A B C : Type 0} → (List ℕ → Bool) → (List ℕ → A) → (A → Unread → Result B ℕ) → (A → B → C) → Unread → Result C ℕ
with_resource passes value behind make u = do
  flag ← flag_read (codes "-r") u
  a ← next_as passes value (past_word u)
  b ← behind a (past_word (past_word u))
  Ok (make a b)

-- Behind `get_lvb`: a resource and a process.
abbrev pub for_process : Layout → (ResourceArg → ℕ → Command) → Unread → Result Command ℕ
for_process g make u = with_resource (is_resource_word g) resource_of_word (λ r. process_behind) make u

-- Behind `set_lvb`: a resource, a process and a value.
abbrev pub value_read : Layout → Unread → Result Command ℕ
value_read g u = with_resource (is_resource_word g) resource_of_word (λ r. value_behind) (λ r v. SetLvb r v.0 v.1) u

-- ---- holders

-- Whether an option is given, which has the value 1.
abbrev pub option_read : List ℕ → Unread → Result Bool ℕ
option_read name u = if next_passes (exactly name) u then next_as (exactly (codes "1")) (λ _. true) (past_word u) else Ok false

-- What stands behind it.
abbrev pub past_option : Bool → Unread → Unread
past_option true u = past_words 2 u
past_option false u = u

-- What an acquire asks for beside a mode: whether persistently, and whether the orphan.
abbrev pub wanted : Bool → Bool → Bool × Bool
wanted persistent orphan = (persistent, orphan)

-- The options of an acquire.
abbrev pub options_read : Unread → Result (Bool × Bool) ℕ
options_read u = do
  persistent ← option_read (codes "-P") u
  orphan ← option_read (codes "-O") (past_option persistent u)
  done ← at_end (past_option orphan (past_option persistent u))
  Ok (wanted persistent orphan)

-- A process with the options that it asks for.
abbrev pub held_by : ℕ → Bool × Bool → ℕ × Bool × Bool
held_by process options = (process, options.0, options.1)

-- `-p`, a process, and the options of an acquire.
abbrev pub holder_behind : Unread → Result (ℕ × Bool × Bool) ℕ
holder_behind u = do
  flag ← flag_read (codes "-p") u
  process ← next_as is_process_word number_of (past_word u)
  options ← options_read (past_word (past_word u))
  Ok (held_by process options)

-- The command of a holder.
abbrev pub acquiring : ResourceArg → Bool → ℕ × Bool × Bool → Command
acquiring r shared h = if h.2 then TakeOver r shared h.0 h.1 else Acquire r shared h.0 h.1

-- Behind `acquire`: a resource in either mode, and a holder.
abbrev pub acquire_read : Layout → Unread → Result Command ℕ
acquire_read g u = with_resource (is_moded_word g) (moded_of_word g) (λ m. holder_behind) (λ m h. acquiring m.0 m.1 h) u

-- The option that is the orphan's; else a process.
abbrev pub releaser_behind : Unread → Result (Option ℕ) ℕ
releaser_behind u =
    if next_passes (exactly (codes "-O")) u then read_each (exactly (codes "1") ∷ []) (λ _. None) (past_word u)
    else process_behind u >>= λ p. Ok (Some p)

-- The command of who releases: a process, or none, where it is the orphan.
abbrev pub releasing : ResourceArg → Option ℕ → Command
releasing r (Some p) = Release r p
releasing r None = ReleaseOrphan r

-- Behind `release`: a resource, and who releases it.
abbrev pub release_read : Layout → Unread → Result Command ℕ
release_read g u = with_resource (is_resource_word g) resource_of_word (λ r. releaser_behind) releasing u

-- Behind `convert`: a resource in either mode, and a process.
abbrev pub convert_read : Layout → Unread → Result Command ℕ
convert_read g u = with_resource (is_moded_word g) (moded_of_word g) (λ m. process_behind) (λ m p. Convert m.0 m.1 p) u

-- Behind `command`: a resource in either mode, and a program.
abbrev pub program_read : Layout → Unread → Result Command ℕ
program_read g u = with_resource (is_moded_word g) (moded_of_word g) (λ m. program_behind) (λ m path. RunProgram m.0 m.1 path) u

-- Behind `request`: a resource with an lver, and a force that goes with it.
abbrev pub request_read : Layout → Unread → Result Command ℕ
request_read g u = with_resource (is_request_word g) request_of_word (λ m. force_with (m.1 == 0)) (λ m force. Request m.0 m.1 force) u

-- The tests behind `set_killpath`: `-p`, a process, `-c` and a program's path.
abbrev pub killpath_tests : List (List ℕ → Bool)
killpath_tests = exactly (codes "-p") ∷ is_process_word ∷ program_tests

-- Behind `set_killpath`: a process and its kill program.
abbrev pub killpath_read : Unread → Result Command ℕ
killpath_read u = read_each killpath_tests (λ ws. SetKillpath (number_of (word_at ws 1)) (word_at ws 3)) u

-- The answer of a parser: a command, or the column.
abbrev pub answered : Result Command ℕ → Result Command BadCommand
answered (Ok c) = Ok c
answered (Err column) = Err (record { column = column })
