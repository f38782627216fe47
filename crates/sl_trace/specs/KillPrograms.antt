-- Kill programs: which a process has, and when one is started in place of a term.
use Rattle.sl_trace.specs.declared.command.Command.TheVariants.{SetKillpath}
use Rattle.sl_trace.specs.declared.command.Command.{Command}
use Rattle.sl_trace.specs.declared.effects.Entry.{Entry}
use Rattle.sl_trace.specs.declared.reply.Reply.TheVariants.{Done}
use Rattle.sl_trace.specs.declared.reply.Reply.{Reply}
use Rattle.sl_words.specs.Words.{choose, some_is}
use Rattle.std.specs.Prelude.{Bool, List, None, Ok, Option, Result, Some, false, filter, find, not, option_and_then, option_map, true, [], ℕ, ◌==◌, ◌∷◌, is_none, length, nat_le, ◌&&◌}
use Rattle.sl_trace.specs.Traces.{Setting, Trace, line_in, next_job, reply_in, exited_by}
use Rattle.sl_trace.specs.CountLimits.{most_children, most_killpaths}
use Rattle.sl_trace.specs.Counts.{child_count}

-- A process with its kill program.
pub record KillProgram : Type 0 where
  pub process : ℕ
  pub program : List ℕ

-- The kill program that a command sets.
abbrev pub kill_program_in : Result Command ℕ → Option KillProgram
kill_program_in (Ok (SetKillpath p path)) = Some (record { process = p; program = path })
kill_program_in c = None

-- Whether the reply says that it is done.
abbrev pub is_done : Reply → Bool
is_done Done = true
is_done r = false

-- The kill program that the entry after these sets: its line says so, and is answered ok in it.
abbrev pub program_set_in : Setting → Trace → Entry → Option KillProgram
program_set_in st es e =
    option_and_then (λ text.
    option_and_then (λ k. choose (some_is (λ r. is_done r.reply) (reply_in (next_job st es) es e)) k) (kill_program_in (st.read text))) (line_in e.input)

-- These without that of a process.
abbrev pub without_program : Option ℕ → List KillProgram → List KillProgram
without_program process ks = filter (λ k. not (some_is (λ p. p == k.process) process)) ks

-- These with one more, in place of its process's.
abbrev pub with_program : Option KillProgram → List KillProgram → List KillProgram
with_program None ks = ks
with_program (Some k) ks = k ∷ without_program (Some k.process) ks

-- The kill programs that are set: of each process the last, until it exits.
abbrev pub kill_programs : Setting → Trace → List KillProgram
kill_programs st [] = []
kill_programs st (e ∷ es) = with_program (program_set_in st es e) (without_program (exited_by e.input) (kill_programs st es))

-- A process's kill program.
abbrev pub kill_program_of : Setting → Trace → ℕ → Option (List ℕ)
kill_program_of st es p = option_map (λ k. k.program) (find (λ k. k.process == p) (kill_programs st es))

-- The kill program that is to be started in place of a term to the process, while a child number is left.
abbrev pub stopper_of : Setting → Trace → ℕ → Option (List ℕ)
stopper_of st es p = option_and_then (λ program. choose (not (nat_le most_children (child_count st es))) program) (kill_program_of st es p)

-- Whether one more process with a kill program would pass the limit.
abbrev pub is_killpath_limit : Setting → Trace → ℕ → Bool
is_killpath_limit st es p = is_none (kill_program_of st es p) && nat_le most_killpaths (length (kill_programs st es))
