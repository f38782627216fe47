-- lvmlockd's locks along a history.
use Rattle.sl_live_lines.specs.declared.given_lines.GivenLine.TheVariants.{ForHost, ForLocks}
use Rattle.sl_live_lines.specs.declared.given_lines.GivenLine.{GivenLine}
use Rattle.sl_locks.specs.declared.line_steps.LockInput.TheVariants.{Exit as LockExit, Line as LockLine, Nothing, Number as LockNumber}
use Rattle.sl_locks.specs.declared.line_steps.LockInput.{LockInput}
use Rattle.sl_run.specs.Locks.{Locks, Told, fresh_locks, locks_after, numbered_locks, told_effects}
use Rattle.sl_run.specs.declared.header.Header.{Header}
use Rattle.sl_trace.specs.Traces.{takes_number}
use Rattle.sl_trace.specs.declared.effects.Entry.{Entry}
use Rattle.sl_trace.specs.declared.effects.JobReply.{JobReply}
use Rattle.sl_trace.specs.declared.input.Input.TheVariants.{Answer as Told_of, Exit, Line, Number, Spawned, Wake}
use Rattle.sl_trace.specs.declared.input.Input.{Input}
use Rattle.sl_words.specs.Words.{some_is}
use Rattle.std.specs.List.{find}
use Rattle.std.specs.Option.{option_and_then, option_map}
use Rattle.std.specs.Prelude.{Bool, List, None, Option, Some, if◌then◌else◌, is_some, not, [], ℕ, ◌+◌, ◌==◌, ◌∷◌}

-- ---- lines

-- The line that an input gives, if it gives one.
abbrev pub line_given : Input → Option GivenLine
line_given (Line text) = Some (ForHost text)
line_given (Number text) = Some (ForLocks text)
line_given i = None

-- ---- locks along a history

-- lvmlockd's locks, with the number of the next job.
pub record AlongState : Type 0 where
  pub locks : Locks
  pub job : ℕ

-- Before the first entry: no line has come, and the first job has this number.
abbrev pub begun_along : Header → ℕ → AlongState
begun_along h first = record { locks = fresh_locks h; job = first }

-- The number of the job behind an input.
abbrev pub job_behind : Input → ℕ → ℕ
job_behind i job = if takes_number i then job + 1 else job

-- After one entry more.
abbrev pub step_along : AlongState → Entry → AlongState
step_along a e = record { locks = (locks_after a.job e.input e.effects a.locks).0; job = job_behind e.input a.job }

-- After all of these.
abbrev pub along : AlongState → List Entry → AlongState
along a [] = a
along a (e ∷ h) = along (step_along a e) h

-- The reply to the line that runs, with the line's number, if it comes by this entry.
abbrev pub told_along : AlongState → Entry → Told
told_along a e = (locks_after a.job e.input e.effects a.locks).1

-- The number of the ask whose reply this entry may have.
abbrev pub asked_along : AlongState → Entry → Option ℕ
asked_along a e = (numbered_locks a.job e.input a.locks).asked

-- Whether a reply is none to that ask.
abbrev pub is_told : Option ℕ → JobReply → Bool
is_told asked r = not (some_is (λ n. n == r.job) asked)

-- The replies of an entry that are told: not that to an ask.
abbrev pub replies_along : AlongState → Entry → List JobReply
replies_along a e = (told_effects a.job e.input e.effects a.locks).replies

-- Whether a line for lvmlockd runs.
abbrev pub runs_line : AlongState → Bool
runs_line a = is_some a.locks.line

-- The ask that is due, as a line.
abbrev pub due_ask : AlongState → Option GivenLine
due_ask a = option_map (λ text. ForHost text) a.locks.due

-- ---- one entry, as the locks take it

-- The input, as what it is to the locks.
abbrev pub lock_of : Input → LockInput
lock_of (Line text) = LockLine
lock_of (Number text) = LockNumber text
lock_of (Exit p) = LockExit p
lock_of (Told_of call answer) = Nothing
lock_of Wake = Nothing
lock_of (Spawned process ok) = Nothing

-- The first reply to the ask with this number, if one is asked.
abbrev pub heard_in : Option ℕ → List JobReply → Option JobReply
heard_in asked rs = option_and_then (λ n. find (λ r. r.job == n) rs) asked
