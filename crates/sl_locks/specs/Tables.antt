-- The locks that a table stands for.
use Rattle.sl_locks.specs.Asks.{ask_text}
use Rattle.sl_locks.specs.Replies.{told_as}
use Rattle.sl_locks.specs.declared.reply.LineReply.{LineReply}
use Rattle.sl_locks.specs.declared.table.LvmLocks.{LvmLocks}
use Rattle.sl_locks.specs.declared.table.Stage.TheVariants.{Acquiring as AcquiringStage, Moving as MovingStage, Reading as ReadingStage, Releasing as ReleasingStage, Writing as WritingStage}
use Rattle.sl_locks.specs.declared.table.Stage.{Stage}
use Rattle.sl_run.specs.LockNames.{Lock, lockspace_of, resource_of}
use Rattle.sl_run.specs.Lvm.{Acquiring, Course, Lvm, Moving, Reading, Releasing, Writing, asks, asks_release, comparison, first_held, has_volume, held_lock_word, is_seen, lock_process, passes_on, tells, where_held, with_seen, without_seen}
use Rattle.sl_run.specs.declared.turn.LvmOut.{LvmOut}
use Rattle.sl_run.specs.Locks.{Locks, Told}
use Rattle.sl_text.specs.Forms.{spaced}
use Rattle.sl_trace.specs.EffectTexts.{reply_text}
use Rattle.sl_trace.specs.declared.command.Command.TheVariants.{RemLockspace, SetLvb}
use Rattle.sl_trace.specs.declared.reply.Reply.TheVariants.{Busy, NotHeld, Value, ValueSet, ValueTorn}
use Rattle.sl_trace.specs.declared.reply.Reply.{Reply}
use Rattle.std.specs.Prelude.{Bool, List, None, Option, Some, codes, false, if◌then◌else◌, map, nat_le, nat_lt, option_map, true, [], ℕ, ◌&&◌, ◌∷◌}
use Rattle.std.specs.Vec.{vec_capacity, vec_len}

-- How far the line has come, with what the write before a release was refused for.
abbrev pub course_of : Option Reply → Stage → Course
course_of refused MovingStage = Moving
course_of refused (AcquiringStage lock mode again compares) = Acquiring lock mode again compares
course_of refused (ReadingStage lock) = Reading lock
course_of refused (WritingStage lock) = Writing lock
course_of refused (ReleasingStage lock) = Releasing lock refused

-- The locks alone.
abbrev pub lvm_of : LvmLocks → Lvm
lvm_of t =
    record { area = t.geometry.area; retries = t.retries; held = t.held.items; seen = t.seen.items; course = option_map (course_of t.refused) t.stage }

-- .. with the line that runs.
abbrev pub locks_of : LvmLocks → Locks
locks_of t = record { lvm = lvm_of t; line = t.line; asked = t.asked; due = option_map (ask_text t.geometry.area) t.due }

-- There is room for one lock more, for one value more, and for a copy of what is held.
abbrev pub has_room : LvmLocks → Bool
has_room t = nat_lt (vec_len t.held) (vec_capacity t.held) && nat_lt (vec_len t.seen) (vec_capacity t.seen) && nat_le (vec_len t.held) (vec_capacity t.spare)

-- What a turn leaves and tells.
abbrev pub left_by : LvmLocks → Option (ℕ × LineReply) → Locks × Told
left_by t told = (locks_of t, told_as told)

-- ---- what lines begin with, one by one

abbrev pub stops : List ℕ → ℕ → Lvm → Lvm × LvmOut
stops group id m = elim (has_volume m group) [ true ↦ passes_on (Busy lock_process) m | false ↦ asks (RemLockspace (lockspace_of group id)) Moving m ]

abbrev pub gives : Lock → Lvm → Lvm × LvmOut
gives l m = where_held l (asks_release l None) m

abbrev pub gives_writing : Lock → Lvm → Lvm × LvmOut
gives_writing l m = where_held l (asks (SetLvb (resource_of m.area l) lock_process (1 ∷ [])) (Writing l)) m

abbrev pub deactivates : List ℕ → List ℕ → Lvm → Lvm × LvmOut
deactivates group name m = elim (first_held m group name) [ None ↦ passes_on NotHeld m | Some h ↦ asks_release h.lock None m ]

abbrev pub informs : Lvm → Lvm × LvmOut
informs m = tells (spaced (codes "ok" ∷ map held_lock_word m.held)) m

-- ---- what follows the read and the write of a value

-- The version of a value, if one was read.
abbrev pub version_read : Reply → Option (ℕ × ℕ)
version_read (Value lver seq bytes) = Some (lver, seq)
version_read r = None

-- The version that a value was written with, if it was.
abbrev pub version_written : Reply → Option (ℕ × ℕ)
version_written (ValueSet lver seq) = Some (lver, seq)
version_written r = None

-- Whether the value that was read is torn.
abbrev pub is_torn : Reply → Bool
is_torn ValueTorn = true
is_torn r = false

-- Where no value was read.
abbrev pub tells_unread : Reply → Lvm → Lvm × LvmOut
tells_unread r m = tells (if is_torn r then comparison false else reply_text r) m

-- Where this version was read, or none.
abbrev pub compares : Lock → Option (ℕ × ℕ) → Reply → Lvm → Lvm × LvmOut
compares l None r m = tells_unread r (without_seen l.group m)
compares l (Some v) r m = tells (comparison (is_seen m l.group v.0 v.1)) (with_seen l.group v.0 v.1 m)

-- Where this version was written, or none.
abbrev pub releases_written : Lock → Option (ℕ × ℕ) → Reply → Lvm → Lvm × LvmOut
releases_written l None r m = asks_release l (Some r) (without_seen l.group m)
releases_written l (Some v) r m = asks_release l None (with_seen l.group v.0 v.1 m)
