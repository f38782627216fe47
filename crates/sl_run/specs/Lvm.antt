-- The locks of a machine: which are held, which value of a group was last seen, and how far the line that runs has come. A line becomes
-- a few asks of the host, one after another; the host's reply decides what comes next. A lock is taken where its acquire is answered ok, and
-- is held no longer than its holding stands: whatever ends that, a release that was begun (however it is answered), an exit or a reset,
-- takes it from the table.
use Rattle.sl_run.specs.LockNames.{Lock, group_path, is_volume, lockspace_of, resource_of, same_lock}
use Rattle.sl_run.specs.LvmLines.{Deactivates, Gives, Gives_writing, Informs, LvmLine, Starts, Stops, Takes, Takes_comparing, lvm_line_in}
use Rattle.sl_run.specs.declared.turn.LvmIn.TheVariants.{Ended, Line as TextLine, Reply as HostReply}
use Rattle.sl_run.specs.declared.turn.LvmIn.{LvmIn}
use Rattle.sl_run.specs.declared.turn.LvmOut.TheVariants.{Ask, Quiet, Reply as LineReply}
use Rattle.sl_run.specs.declared.turn.LvmOut.{LvmOut}
use Rattle.sl_text.specs.Forms.{coloned, spaced}
use Rattle.sl_trace.specs.CommandForms.{command_words}
use Rattle.sl_trace.specs.EffectTexts.{is_ok_reply, mode_word, reply_text}
use Rattle.sl_trace.specs.CountLimits.{most_processes}
use Rattle.sl_trace.specs.Traces.{is_shared, same_place}
use Rattle.sl_trace.specs.declared.command.Command.TheVariants.{Acquire, AddLockspace, GetLvb, Release, RemLockspace, SetLvb}
use Rattle.sl_trace.specs.declared.command.Command.{Command}
use Rattle.sl_trace.specs.declared.effects.End.{End}
use Rattle.sl_trace.specs.declared.effects.Mode.{Mode}
use Rattle.sl_trace.specs.declared.reply.Reply.TheVariants.{Ahead, BadCommand as Misread, Busy, NotHeld, Rival, Value, ValueSet, ValueTorn}
use Rattle.sl_trace.specs.declared.reply.Reply.{Reply}
use Rattle.std.specs.List.{list_any}
use Rattle.std.specs.Prelude.{Bool, Err, List, None, Ok, Option, Result, Some, bytes_eq, codes, false, filter, find, if◌then◌else◌, map, nat_lt, not, true, unwrap_or, [], ℕ, ◌&&◌, ◌*◌, ◌++◌, ◌+◌, ◌==◌, ◌∷◌}

-- The process that holds for lvmlockd: it acts by lines alone.
abbrev pub lock_process : ℕ
lock_process = most_processes

-- A lock that is held, in a mode.
pub record HeldLock : Type 0 where
  pub lock : Lock
  pub mode : Mode

-- The version of a group's value that was last seen or written.
pub record SeenValue : Type 0 where
  pub group : List ℕ
  pub lver : ℕ
  pub seq : ℕ

-- How far a line has come: what its last ask was.
pub data Course : Type 0 where
  -- a join or a leaving
  Moving : Course
  -- an acquire, how often it was asked again, and whether the value is read after it
  Acquiring : Lock → Mode → ℕ → Bool → Course
  -- the read of the value
  Reading : Lock → Course
  -- its write, before the release
  Writing : Lock → Course
  -- a release, and what the write before it was refused for
  Releasing : Lock → Option Reply → Course

-- The locks of a machine.
pub record Lvm : Type 0 where
  -- bytes of an area
  pub area : ℕ
  -- how often an acquire that lost against a rival is asked again
  pub retries : ℕ
  -- in the order of their grants
  pub held : List HeldLock
  pub seen : List SeenValue
  pub course : Option Course

-- Locks of which none is held.
abbrev pub no_locks : ℕ → ℕ → Lvm
no_locks area retries = record { area = area; retries = retries; held = []; seen = []; course = None }

-- ---- what is kept

-- Whether the lock is held.
abbrev pub is_held : Lvm → Lock → Bool
is_held m l = list_any (λ h. same_lock h.lock l) m.held

-- Whether a logical volume of the group is.
abbrev pub has_volume : Lvm → List ℕ → Bool
has_volume m group = list_any (λ h. is_volume h.lock && bytes_eq h.lock.group group) m.held

-- Whether the lock is that of this logical volume.
abbrev pub is_volume_of : List ℕ → List ℕ → Lock → Bool
is_volume_of group name l = is_volume l && bytes_eq l.group group && bytes_eq l.name name

-- Its lock that was taken first.
abbrev pub first_held : Lvm → List ℕ → List ℕ → Option HeldLock
first_held m group name = find (λ h. is_volume_of group name h.lock) m.held

-- With one more lock.
abbrev pub with_lock : Lock → Mode → Lvm → Lvm
with_lock l mode m = record m { held = m.held ++ record { lock = l; mode = mode } ∷ [] }

-- Whether one of these ends is that of the lock's holding.
abbrev pub ends_lock : ℕ → List End → Lock → Bool
ends_lock area ends l = list_any (λ e. e.process == lock_process && same_place e.path e.offset (group_path l.group) (l.number * area)) ends

-- Without the locks whose holdings these end.
abbrev pub without_ended : List End → Lvm → Lvm
without_ended ends m = record m { held = filter (λ h. not (ends_lock m.area ends h.lock)) m.held }

-- With nothing known of a group's value.
abbrev pub without_seen : List ℕ → Lvm → Lvm
without_seen group m = record m { seen = filter (λ v. not (bytes_eq v.group group)) m.seen }

-- With this version of it.
abbrev pub with_seen : List ℕ → ℕ → ℕ → Lvm → Lvm
with_seen group lver seq m = let n : Lvm = without_seen group m in record n { seen = record { group = group; lver = lver; seq = seq } ∷ n.seen }

-- Whether this version is the one that was seen.
abbrev pub is_seen : Lvm → List ℕ → ℕ → ℕ → Bool
is_seen m group lver seq = list_any (λ v. bytes_eq v.group group && v.lver == lver && v.seq == seq) m.seen

-- ---- turns

-- The host is asked, and the line is then so far.
abbrev pub asks : Command → Course → Lvm → Lvm × LvmOut
asks c course m = (record m { course = Some course }, Ask (spaced (command_words c)))

-- The line is answered with this text.
abbrev pub tells : List ℕ → Lvm → Lvm × LvmOut
tells text m = (record m { course = None }, LineReply text)

-- The line is answered as the host did.
abbrev pub passes_on : Reply → Lvm → Lvm × LvmOut
passes_on r m = tells (reply_text r) m

-- An acquire of the lock in a mode, asked again so often before.
abbrev pub asks_lock : Lock → Mode → ℕ → Bool → Lvm → Lvm × LvmOut
asks_lock l mode again compares m = asks (Acquire (resource_of m.area l) (is_shared mode) lock_process false) (Acquiring l mode again compares) m

-- A release of it.
abbrev pub asks_release : Lock → Option Reply → Lvm → Lvm × LvmOut
asks_release l refused m = asks (Release (resource_of m.area l) lock_process) (Releasing l refused) m

-- The word of a held lock.
abbrev pub held_lock_word : HeldLock → List ℕ
held_lock_word h = coloned ((h.lock.group ++ 47 ∷ h.lock.name) ∷ mode_word h.mode ∷ [])

-- Where the lock is held.
abbrev pub where_held : Lock → (Lvm → Lvm × LvmOut) → Lvm → Lvm × LvmOut
where_held l f m = elim (is_held m l) [ true ↦ f m | false ↦ passes_on NotHeld m ]

-- What a line begins with.
unfoldable pub begins : Lvm → LvmLine → Lvm × LvmOut
begins m (Starts group id) = asks (AddLockspace (lockspace_of group id)) Moving m
begins m (Stops group id) =
    elim (has_volume m group) [ true ↦ passes_on (Busy lock_process) m | false ↦ asks (RemLockspace (lockspace_of group id)) Moving m ]
begins m (Takes l mode) = asks_lock l mode 0 false m
begins m (Takes_comparing l mode) = asks_lock l mode 0 true m
begins m (Gives l) = where_held l (asks_release l None) m
begins m (Gives_writing l) = where_held l (asks (SetLvb (resource_of m.area l) lock_process (1 ∷ [])) (Writing l)) m
begins m (Deactivates group name) =
    elim (first_held m group name) [ None ↦ passes_on NotHeld m | Some h ↦ asks_release h.lock None m ]
begins m Informs = tells (spaced (codes "ok" ∷ map held_lock_word m.held)) m

-- Whether an acquire that is so refused may be asked again: it lost against a rival.
abbrev pub is_lost : Reply → Bool
is_lost (Rival host mbal) = true
is_lost (Ahead host lver) = true
is_lost r = false

-- After the reply to an acquire.
abbrev pub after_acquiring : Lvm → Lock → Mode → ℕ → Bool → Reply → Lvm × LvmOut
after_acquiring m l mode again compares r =
    if is_ok_reply r then
    (if compares then asks (GetLvb (resource_of m.area l) lock_process) (Reading l) (with_lock l mode m) else passes_on r (with_lock l mode m))
    else (if is_lost r && nat_lt again m.retries then asks_lock l mode (again + 1) compares m
    else passes_on r m)

-- Whether the value is the one that was seen.
abbrev pub comparison : Bool → List ℕ
comparison true = codes "ok same"
comparison false = codes "ok changed"

-- After the reply to the read of a group's value: a torn one counts as changed.
abbrev pub after_reading : Lvm → Lock → Reply → Lvm × LvmOut
after_reading m l (Value lver seq bytes) = tells (comparison (is_seen m l.group lver seq)) (with_seen l.group lver seq m)
after_reading m l ValueTorn = tells (comparison false) (without_seen l.group m)
after_reading m l r = passes_on r (without_seen l.group m)

-- After the reply to its write: the release follows either way.
abbrev pub after_writing : Lvm → Lock → Reply → Lvm × LvmOut
after_writing m l (ValueSet lver seq) = asks_release l None (with_seen l.group lver seq m)
after_writing m l r = asks_release l (Some r) (without_seen l.group m)

-- After the reply to a release: where it is ok, what the write before it was refused for is told.
abbrev pub after_releasing : Lvm → Option Reply → Reply → Lvm × LvmOut
after_releasing m refused r = passes_on (if is_ok_reply r then unwrap_or refused r else r) m

-- After the host's reply, by how far the line has come.
unfoldable pub goes_on_with : Lvm → Reply → Course → Lvm × LvmOut
goes_on_with m r Moving = passes_on r m
goes_on_with m r (Acquiring l mode again compares) = after_acquiring m l mode again compares r
goes_on_with m r (Reading l) = after_reading m l r
goes_on_with m r (Writing l) = after_writing m l r
goes_on_with m r (Releasing l refused) = after_releasing m refused r

-- A line, or the column where it fails.
abbrev pub begins_line : Lvm → Result LvmLine ℕ → Lvm × LvmOut
begins_line m (Ok l) = begins m l
begins_line m (Err column) = passes_on (Misread column) m

-- One turn. A line comes only while none runs, a reply only to an ask.
unfoldable pub lvm_turn : Lvm → LvmIn → Lvm × LvmOut
lvm_turn m (TextLine text) = begins_line m (lvm_line_in m.area text)
lvm_turn m (HostReply r) = elim m.course [ None ↦ (m, Quiet) | Some course ↦ goes_on_with m r course ]
lvm_turn m Ended = (record m { held = []; seen = [] }, Quiet)
