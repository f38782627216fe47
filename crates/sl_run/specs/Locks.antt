-- lvmlockd on a machine: its locks, and how its lines become steps of the daemon. A line is one step that takes a number; then each ask
-- is a step of its own, at the same reading, until the line is answered or an ask waits.
use Rattle.sl_run.specs.Lvm.{Lvm, lock_process, lvm_turn, no_locks, without_ended}
use Rattle.sl_run.specs.declared.turn.LvmIn.TheVariants.{Ended, Line as TextLine, Reply as HostReply}
use Rattle.sl_run.specs.declared.turn.LvmOut.TheVariants.{Ask, Quiet, Reply as LineReply}
use Rattle.sl_run.specs.declared.turn.LvmOut.{LvmOut}
use Rattle.sl_run.specs.declared.header.Header.{Header}
use Rattle.sl_trace.specs.declared.effects.Effects.{Effects}
use Rattle.sl_trace.specs.declared.input.Input.TheVariants.{Exit, Line, Number}
use Rattle.sl_trace.specs.declared.input.Input.{Input}
use Rattle.sl_words.specs.Words.{some_is}
use Rattle.std.specs.Prelude.{Bool, List, None, Option, Some, false, filter, find, not, option_and_then, option_map, true, ℕ, ◌==◌}

-- lvmlockd's locks with the line that runs.
pub record Locks : Type 0 where
  pub lvm : Lvm
  -- the number of the line that runs
  pub line : Option ℕ
  -- the number of the ask that has no reply yet
  pub asked : Option ℕ
  -- the ask that is due as the next step
  pub due : Option (List ℕ)

-- Before any line.
abbrev pub fresh_locks : Header → Locks
fresh_locks h = record { lvm = no_locks h.geometry.area h.retries; line = None; asked = None; due = None }

-- The reply to a line, with its number.
abbrev pub Told : Type 0
Told = Option (ℕ × List ℕ)

-- What a turn of the locks leaves: an ask is due, or the line is answered.
abbrev pub after_turn : Locks → Lvm × LvmOut → Locks × Told
after_turn k (lvm, Ask text) = (record { lvm = lvm; line = k.line; asked = None; due = Some text }, None)
after_turn k (lvm, LineReply text) = (record { lvm = lvm; line = None; asked = None; due = None }, option_map (λ n. (n, text)) k.line)
after_turn k (lvm, Quiet) = (record k { lvm = lvm }, None)

-- The step that begins with this input takes this number, if it is the line's or an ask's.
abbrev pub numbered_locks : ℕ → Input → Locks → Locks
numbered_locks number (Number text) k = record k { line = Some number }
numbered_locks number (Line text) k = elim k.due [ None ↦ k | Some ask ↦ record k { asked = Some number; due = None } ]
numbered_locks number i k = k

-- The turn that a step's effects bring: the reply to the ask.
abbrev pub replied_locks : Effects → Locks → Locks × Told
replied_locks fx k =
    elim (option_and_then (λ n. find (λ a. a.job == n) fx.replies) k.asked) [
      | None ↦ (k, None)
      | Some a ↦ after_turn k (lvm_turn k.lvm (HostReply a.reply))
    ]

-- The locks without those whose holdings a step, or the machine itself, has ended.
abbrev pub left_locks : Effects → Locks → Locks
left_locks fx k = record k { lvm = without_ended fx.ends k.lvm }

-- Whether lvmlockd itself ends by the input.
abbrev pub is_lock_exit : Input → Bool
is_lock_exit (Exit p) = p == lock_process
is_lock_exit i = false

-- The locks with what an end of lvmlockd leaves.
abbrev pub ended_locks : Input → Locks × Told → Locks × Told
ended_locks i p = elim (is_lock_exit i) [ false ↦ p | true ↦ ((after_turn p.0 (lvm_turn p.0.lvm Ended)).0, p.1) ]

-- The turn that a step brings: a line's, or that of the reply to an ask.
abbrev pub turned_locks : Input → Effects → Locks → Locks × Told
turned_locks (Number text) fx k = after_turn k (lvm_turn k.lvm (TextLine text))
turned_locks i fx k = replied_locks fx k

-- The locks after a step with this number, input and effects, and the reply to the line, if it has come.
unfoldable pub locks_after : ℕ → Input → Effects → Locks → Locks × Told
locks_after number i fx k = ended_locks i (turned_locks i fx (numbered_locks number i (left_locks fx k)))

-- What is told of a step's effects: not the reply to an ask.
unfoldable pub told_effects : ℕ → Input → Effects → Locks → Effects
told_effects number i fx k =
    record fx { replies = filter (λ a. not (some_is (λ n. n == a.job) (numbered_locks number i k).asked)) fx.replies }
