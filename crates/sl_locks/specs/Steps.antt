-- The place of the locks in a daemon's steps.
use Rattle.sl_locks.specs.declared.line_steps.LockInput.TheVariants.{Exit as LockExit, Line as LockLine, Nothing, Number as LockNumber}
use Rattle.sl_locks.specs.declared.line_steps.LockInput.{LockInput}
use Rattle.sl_locks.specs.Tables.{left_by, locks_of}
use Rattle.sl_locks.specs.declared.line_steps.StepTold.{StepTold}
use Rattle.sl_locks.specs.declared.table.LvmLocks.{LvmLocks}
use Rattle.sl_run.specs.Lvm.{lvm_turn}
use Rattle.sl_run.specs.declared.turn.LvmIn.TheVariants.{Line as TextLine, Reply as HostReply}
use Rattle.sl_run.specs.Locks.{Locks, Told, after_turn, ended_locks}
use Rattle.sl_trace.specs.declared.effects.Effects.{Effects}
use Rattle.sl_trace.specs.declared.effects.JobReply.{JobReply}
use Rattle.sl_trace.specs.declared.input.Input.TheVariants.{Exit, Line, Number, Wake}
use Rattle.sl_trace.specs.declared.input.Input.{Input}
use Rattle.sl_words.specs.Words.{some_is}
use Rattle.std.specs.List.{find}
use Rattle.std.specs.Prelude.{Bool, None, Option, Some, false, filter, is_none, not, [], ℕ, ◌==◌, ◌≡◌}

-- The input that is no other to lvmlockd's locks.
abbrev pub lock_input : LockInput → Input
lock_input LockLine = Line []
lock_input (LockNumber text) = Number text
lock_input (LockExit p) = Exit p
lock_input Nothing = Wake

-- The table with a step's number, if it is the line's or an ask's.
abbrev pub ask_numbered : ℕ → LvmLocks → LvmLocks
ask_numbered n t = elim t.due [ None ↦ t | Some ask ↦ record t { asked = Some n; due = None } ]

abbrev pub given_number : ℕ → LockInput → LvmLocks → LvmLocks
given_number n LockLine t = ask_numbered n t
given_number n (LockNumber text) t = record t { line = Some n }
given_number n (LockExit p) t = t
given_number n Nothing t = t

-- Whether a step brings no turn: no ask waits for a reply, and no line comes.
abbrev pub is_quiet : LockInput → Option ℕ → Bool
is_quiet (LockNumber text) asked = false
is_quiet LockLine asked = is_none asked
is_quiet (LockExit p) asked = is_none asked
is_quiet Nothing asked = is_none asked

-- Whether a reply is that to the ask.
abbrev pub is_asked : Option ℕ → JobReply → Bool
is_asked asked a = some_is (λ n. n == a.job) asked

-- The turn that a reply brings, if it came.
abbrev pub heard_by : Option JobReply → Locks → Locks × Told
heard_by reply k = elim reply [ None ↦ (k, None) | Some a ↦ after_turn k (lvm_turn k.lvm (HostReply a.reply)) ]

-- The turn that a step brings: a line's, or that of the reply to an ask.
abbrev pub turned_by : LockInput → Option JobReply → Locks → Locks × Told
turned_by (LockNumber text) reply k = after_turn k (lvm_turn k.lvm (TextLine text))
turned_by LockLine reply k = heard_by reply k
turned_by (LockExit p) reply k = heard_by reply k
turned_by Nothing reply k = heard_by reply k

-- A step is told that has its number: what its turn leaves and tells, and its effects without the replies to the ask.
pub record IsTurned (i : LockInput) (fx : Effects) (old new : LvmLocks) (told : StepTold) : Type 0 where
  pub left : left_by new told.line ≡ ended_locks (lock_input i) (turned_by i (find (is_asked old.asked) fx.replies) (locks_of old))
  pub effects : told.effects ≡ record fx { replies = filter (λ a. not (is_asked old.asked a)) fx.replies }
