-- What a turn of the locks comes to: every turn is one of these.
use Rattle.sl_run.specs.LockNames.{Lock, lockspace_of, resource_of}
use Rattle.sl_run.specs.Lvm.{Acquiring, Course, HeldLock, Lvm, Moving, Reading, Releasing, Writing, after_reading, after_writing, asks, asks_lock, asks_release, begins, begins_line, comparison, first_held, goes_on_with, has_volume, held_lock_word, is_held, is_lost, is_seen, lock_process, lvm_turn, passes_on, tells, with_lock, with_seen, without_seen}
use Rattle.sl_run.specs.LvmLines.{Deactivates, Gives, Gives_writing, Informs, LvmLine, Starts, Stops, Takes, Takes_comparing, lvm_line_in}
use Rattle.sl_run.specs.declared.turn.LvmIn.TheVariants.{Line as TextLine, Reply as HostReply}
use Rattle.sl_run.specs.declared.turn.LvmOut.TheVariants.{Quiet}
use Rattle.sl_run.specs.declared.turn.LvmOut.{LvmOut}
use Rattle.sl_text.specs.Forms.{spaced}
use Rattle.sl_trace.specs.EffectTexts.{is_ok_reply, reply_text}
use Rattle.sl_trace.specs.declared.command.Command.TheVariants.{AddLockspace, GetLvb, RemLockspace, SetLvb}
use Rattle.sl_trace.specs.declared.command.Command.{Command}
use Rattle.sl_trace.specs.declared.effects.Mode.{Mode}
use Rattle.sl_trace.specs.declared.reply.Reply.TheVariants.{Ahead, BadCommand as Misread, Busy, Done, Generation, Granted, Held, Hosts, IdHeld, IdLate, IdLost, IoFault, IoTimeout, Joined, Joining as StillJoining, Limit, NoOrphan, NoProcess, NoSession, NotHeld, Pending, Recovering, RequestOld, Rival, Sessions, Shared, SpawnFault, Started, TornBlock, TornDelta, TornLeader, Value, ValueSet, ValueTorn, WrongArea, WrongDelta}
use Rattle.sl_trace.specs.declared.reply.Reply.{Reply}
use Rattle.sl_words.proofs.CaseLaws.{none_some, some_value}
use Rattle.std.proofs.Common.{arith, refl, subst, sym, tests}
use Rattle.std.specs.Prelude.{Bool, Err, List, None, Ok, Option, Result, Some, codes, false, if◌then◌else◌, map, nat_lt, true, unwrap_or, [], ℕ, ◌&&◌, ◌+◌, ◌<◌, ◌∷◌, ◌≡◌}

-- ---- lines

-- A line is answered at once, or its first ask is of the lock that it names.
pub data LineTurn (m : Lvm) (x : Result LvmLine ℕ) (t : Lvm × LvmOut) : Type 0 where
  Line_told : (text : List ℕ) → t ≡ tells text m → LineTurn m x t
  Line_moves : (c : Command) → t ≡ asks c Moving m → LineTurn m x t
  Line_takes : (l : Lock) (mode : Mode) → x ≡ Ok (Takes l mode) → t ≡ asks_lock l mode 0 false m → LineTurn m x t
  Line_compares : (l : Lock) (mode : Mode) → x ≡ Ok (Takes_comparing l mode) → t ≡ asks_lock l mode 0 true m → LineTurn m x t
  Line_writes : (l : Lock) → x ≡ Ok (Gives_writing l) → t ≡ asks (SetLvb (resource_of m.area l) lock_process (1 ∷ [])) (Writing l) m → LineTurn m x t
  Line_gives : (l : Lock) → t ≡ asks_release l None m → LineTurn m x t

stopped : (m : Lvm) (group : List ℕ) (id : ℕ) (x : Result LvmLine ℕ) (t : Bool)
    → LineTurn m x (elim t as (λ y. Lvm × LvmOut) [ true ↦ passes_on (Busy lock_process) m | false ↦ asks (RemLockspace (lockspace_of group id)) Moving m ])
stopped m group id x true = Line_told (reply_text (Busy lock_process)) refl
stopped m group id x false = Line_moves (RemLockspace (lockspace_of group id)) refl

gave : (m : Lvm) (l : Lock) (x : Result LvmLine ℕ) (t : Bool)
    → LineTurn m x (elim t as (λ y. Lvm × LvmOut) [ true ↦ asks_release l None m | false ↦ passes_on NotHeld m ])
gave m l x true = Line_gives l refl
gave m l x false = Line_told (reply_text NotHeld) refl

gave_writing : (m : Lvm) (l : Lock) (t : Bool)
    → LineTurn m (Ok (Gives_writing l))
    (elim t as (λ y. Lvm × LvmOut) [ true ↦ asks (SetLvb (resource_of m.area l) lock_process (1 ∷ [])) (Writing l) m | false ↦ passes_on NotHeld m ])
gave_writing m l true = Line_writes l refl refl
gave_writing m l false = Line_told (reply_text NotHeld) refl

deactivated : (m : Lvm) (x : Result LvmLine ℕ) (o : Option HeldLock)
    → LineTurn m x (elim o as (λ y. Lvm × LvmOut) [ None ↦ passes_on NotHeld m | Some h ↦ asks_release h.lock None m ])
deactivated m x None = Line_told (reply_text NotHeld) refl
deactivated m x (Some h) = Line_gives h.lock refl

begun : (m : Lvm) (x : LvmLine) → LineTurn m (Ok x) (begins m x)
unfolding begins
begun m (Starts group id) = Line_moves (AddLockspace (lockspace_of group id)) refl
begun m (Stops group id) = stopped m group id (Ok (Stops group id)) (has_volume m group)
begun m (Takes l mode) = Line_takes l mode refl refl
begun m (Takes_comparing l mode) = Line_compares l mode refl refl
begun m (Gives l) = gave m l (Ok (Gives l)) (is_held m l)
begun m (Gives_writing l) = gave_writing m l (is_held m l)
begun m (Deactivates group name) = deactivated m (Ok (Deactivates group name)) (first_held m group name)
begun m Informs = Line_told (spaced (codes "ok" ∷ map held_lock_word m.held)) refl

begun_line : (m : Lvm) (x : Result LvmLine ℕ) → LineTurn m x (begins_line m x)
begun_line m (Ok x) = begun m x
begun_line m (Err column) = Line_told (reply_text (Misread column)) refl

pub line_turn : (m : Lvm) (text : List ℕ) → LineTurn m (lvm_line_in m.area text) (lvm_turn m (TextLine text))
unfolding lvm_turn
line_turn m text = begun_line m (lvm_line_in m.area text)

-- ---- replies

-- Whether the reply tells a value.
abbrev pub is_value : Reply → Bool
is_value (Value lver seq bytes) = true
is_value r = false

-- What a reply makes of a line that has come so far.
pub data HostTurn (m : Lvm) (r : Reply) (c : Course) (t : Lvm × LvmOut) : Type 0 where
  Moved : t ≡ passes_on r m → HostTurn m r c t
  Took_to_read : (l : Lock) (mode : Mode) (again : ℕ) → c ≡ Acquiring l mode again true → is_ok_reply r ≡ true
      → t ≡ asks (GetLvb (resource_of m.area l) lock_process) (Reading l) (with_lock l mode m) → HostTurn m r c t
  Took_lock : (l : Lock) (mode : Mode) (again : ℕ) → c ≡ Acquiring l mode again false → is_ok_reply r ≡ true → t ≡ passes_on r (with_lock l mode m) → HostTurn m r c t
  Asks_again : (l : Lock) (mode : Mode) (again : ℕ) (compares : Bool) → c ≡ Acquiring l mode again compares → again < m.retries
      → t ≡ asks_lock l mode (again + 1) compares m → HostTurn m r c t
  Read_value : (l : Lock) (lver seq : ℕ) (bytes : List ℕ) → c ≡ Reading l → r ≡ Value lver seq bytes
      → t ≡ tells (comparison (is_seen m l.group lver seq)) (with_seen l.group lver seq m) → HostTurn m r c t
  Read_torn : (l : Lock) → c ≡ Reading l → t ≡ tells (comparison false) (without_seen l.group m) → HostTurn m r c t
  Read_none : (l : Lock) → c ≡ Reading l → is_value r ≡ false → t ≡ passes_on r (without_seen l.group m) → HostTurn m r c t
  Wrote_value : (l : Lock) (lver seq : ℕ) → c ≡ Writing l → r ≡ ValueSet lver seq → t ≡ asks_release l None (with_seen l.group lver seq m) → HostTurn m r c t
  Wrote_none : (l : Lock) → c ≡ Writing l → t ≡ asks_release l (Some r) (without_seen l.group m) → HostTurn m r c t
  Released : (l : Lock) (refused : Option Reply) (s : Reply) → c ≡ Releasing l refused → t ≡ passes_on s m → HostTurn m r c t

is_less : (a b : ℕ) → nat_lt a b ≡ true → a < b
is_less a b h = grind (arith, tests, h)

again_by : (m : Lvm) (l : Lock) (mode : Mode) (again : ℕ) (compares : Bool) (r : Reply) (lost few : Bool) → nat_lt again m.retries ≡ few
    → HostTurn m r (Acquiring l mode again compares) (if lost && few then asks_lock l mode (again + 1) compares m else passes_on r m)
again_by m l mode again compares r true true is = Asks_again l mode again compares refl (is_less again m.retries is) refl
again_by m l mode again compares r true false is = Moved refl
again_by m l mode again compares r false few is = Moved refl

acquired : (m : Lvm) (l : Lock) (mode : Mode) (again : ℕ) (compares : Bool) (r : Reply) (ok : Bool) → is_ok_reply r ≡ ok
    → HostTurn m r (Acquiring l mode again compares)
    (if ok then
    (if compares then asks (GetLvb (resource_of m.area l) lock_process) (Reading l) (with_lock l mode m) else passes_on r (with_lock l mode m))
    else (if is_lost r && nat_lt again m.retries then asks_lock l mode (again + 1) compares m else passes_on r m))
acquired m l mode again true r true is = Took_to_read l mode again refl is refl
acquired m l mode again false r true is = Took_lock l mode again refl is refl
acquired m l mode again compares r false is = again_by m l mode again compares r (is_lost r) (nat_lt again m.retries) refl

read : (m : Lvm) (l : Lock) (r : Reply) → HostTurn m r (Reading l) (after_reading m l r)
read m l Done = Read_none l refl refl refl
read m l (Generation generation) = Read_none l refl refl refl
read m l (Granted lver) = Read_none l refl refl refl
read m l (Started lver process) = Read_none l refl refl refl
read m l (Value lver seq bytes) = Read_value l lver seq bytes refl refl refl
read m l (ValueSet lver seq) = Read_none l refl refl refl
read m l (Hosts all) = Read_none l refl refl refl
read m l (Sessions all) = Read_none l refl refl refl
read m l NoSession = Read_none l refl refl refl
read m l StillJoining = Read_none l refl refl refl
read m l (Recovering renewed) = Read_none l refl refl refl
read m l (IdHeld first later) = Read_none l refl refl refl
read m l (IdLost own found) = Read_none l refl refl refl
read m l (IdLate claimed now) = Read_none l refl refl refl
read m l TornDelta = Read_none l refl refl refl
read m l TornLeader = Read_none l refl refl refl
read m l (TornBlock host) = Read_none l refl refl refl
read m l (Held lver owner) = Read_none l refl refl refl
read m l (Shared owner) = Read_none l refl refl refl
read m l (Rival host mbal) = Read_none l refl refl refl
read m l (Ahead host lver) = Read_none l refl refl refl
read m l (IoTimeout call from to) = Read_none l refl refl refl
read m l (IoFault call) = Read_none l refl refl refl
read m l (Pending call) = Read_none l refl refl refl
read m l (Busy process) = Read_none l refl refl refl
read m l NoOrphan = Read_none l refl refl refl
read m l NotHeld = Read_none l refl refl refl
read m l SpawnFault = Read_none l refl refl refl
read m l ValueTorn = Read_torn l refl refl
read m l (Misread column) = Read_none l refl refl refl
read m l (Limit which) = Read_none l refl refl refl
read m l (RequestOld held stored) = Read_none l refl refl refl
read m l (WrongArea lockspace resource hosts) = Read_none l refl refl refl
read m l (WrongDelta lockspace id) = Read_none l refl refl refl
read m l (NoProcess process) = Read_none l refl refl refl
read m l (Joined generation) = Read_none l refl refl refl

wrote : (m : Lvm) (l : Lock) (r : Reply) → HostTurn m r (Writing l) (after_writing m l r)
wrote m l Done = Wrote_none l refl refl
wrote m l (Generation generation) = Wrote_none l refl refl
wrote m l (Granted lver) = Wrote_none l refl refl
wrote m l (Started lver process) = Wrote_none l refl refl
wrote m l (Value lver seq bytes) = Wrote_none l refl refl
wrote m l (ValueSet lver seq) = Wrote_value l lver seq refl refl refl
wrote m l (Hosts all) = Wrote_none l refl refl
wrote m l (Sessions all) = Wrote_none l refl refl
wrote m l NoSession = Wrote_none l refl refl
wrote m l StillJoining = Wrote_none l refl refl
wrote m l (Recovering renewed) = Wrote_none l refl refl
wrote m l (IdHeld first later) = Wrote_none l refl refl
wrote m l (IdLost own found) = Wrote_none l refl refl
wrote m l (IdLate claimed now) = Wrote_none l refl refl
wrote m l TornDelta = Wrote_none l refl refl
wrote m l TornLeader = Wrote_none l refl refl
wrote m l (TornBlock host) = Wrote_none l refl refl
wrote m l (Held lver owner) = Wrote_none l refl refl
wrote m l (Shared owner) = Wrote_none l refl refl
wrote m l (Rival host mbal) = Wrote_none l refl refl
wrote m l (Ahead host lver) = Wrote_none l refl refl
wrote m l (IoTimeout call from to) = Wrote_none l refl refl
wrote m l (IoFault call) = Wrote_none l refl refl
wrote m l (Pending call) = Wrote_none l refl refl
wrote m l (Busy process) = Wrote_none l refl refl
wrote m l NoOrphan = Wrote_none l refl refl
wrote m l NotHeld = Wrote_none l refl refl
wrote m l SpawnFault = Wrote_none l refl refl
wrote m l ValueTorn = Wrote_none l refl refl
wrote m l (Misread column) = Wrote_none l refl refl
wrote m l (Limit which) = Wrote_none l refl refl
wrote m l (RequestOld held stored) = Wrote_none l refl refl
wrote m l (WrongArea lockspace resource hosts) = Wrote_none l refl refl
wrote m l (WrongDelta lockspace id) = Wrote_none l refl refl
wrote m l (NoProcess process) = Wrote_none l refl refl
wrote m l (Joined generation) = Wrote_none l refl refl

pub host_turn : (m : Lvm) (r : Reply) (c : Course) → HostTurn m r c (goes_on_with m r c)
unfolding goes_on_with
host_turn m r Moving = Moved refl
host_turn m r (Acquiring l mode again compares) = acquired m l mode again compares r (is_ok_reply r) refl
host_turn m r (Reading l) = read m l r
host_turn m r (Writing l) = wrote m l r
host_turn m r (Releasing l refused) = Released l refused (if is_ok_reply r then unwrap_or refused r else r) refl refl

host_by : (m : Lvm) (r : Reply) (c : Course) (o : Option Course) → m.course ≡ o → o ≡ Some c
    → HostTurn m r c (elim o as (λ x. Lvm × LvmOut) [ None ↦ (m, Quiet) | Some y ↦ goes_on_with m r y ])
host_by m r c None is h = absurd (none_some c h)
host_by m r c (Some y) is h = subst (λ z. HostTurn m r c (goes_on_with m r z)) (sym (some_value y c h)) (host_turn m r c)

pub reply_turn : (m : Lvm) (r : Reply) (c : Course) → m.course ≡ Some c → HostTurn m r c (lvm_turn m (HostReply r))
unfolding lvm_turn
reply_turn m r c h = host_by m r c m.course refl h

none_by : (m : Lvm) (r : Reply) (o : Option Course) → o ≡ None → elim o as (λ x. Lvm × LvmOut) [ None ↦ (m, Quiet) | Some y ↦ goes_on_with m r y ] ≡ (m, Quiet)
none_by m r o h = rw h refl

pub quiet_turn : (m : Lvm) (r : Reply) → m.course ≡ None → lvm_turn m (HostReply r) ≡ (m, Quiet)
unfolding lvm_turn
quiet_turn m r h = none_by m r m.course h
