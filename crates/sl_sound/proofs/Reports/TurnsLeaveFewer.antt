-- What a turn of the locks leaves of a line: each ask leaves fewer, and how often an acquire is asked again stays.
use Rattle.sl_run.specs.LockNames.{Lock, lockspace_of, resource_of}
use Rattle.sl_run.specs.Lvm.{Acquiring, Course, HeldLock, Lvm, Moving, Reading, Releasing, Writing, after_reading, after_writing, asks, asks_lock, asks_release, begins, begins_line, first_held, goes_on_with, has_volume, is_held, is_lost, lock_process, lvm_turn, passes_on, tells, with_lock}
use Rattle.sl_run.specs.LvmLines.{Deactivates, Gives, Gives_writing, Informs, LvmLine, Starts, Stops, Takes, Takes_comparing, lvm_line_in}
use Rattle.sl_run.specs.declared.turn.LvmIn.TheVariants.{Ended, Line as TextLine, Reply as HostReply}
use Rattle.sl_run.specs.declared.turn.LvmOut.TheVariants.{Ask, Quiet, Reply as LineReply}
use Rattle.sl_run.specs.declared.turn.LvmOut.{LvmOut}
use Rattle.sl_words.proofs.Numbers.{zero_least}
use Rattle.sl_run.specs.Locks.{Locks, Told, after_turn, ended_locks, is_lock_exit, left_locks, locks_after, numbered_locks, replied_locks, turned_locks}
use Rattle.sl_sound.specs.Reports.EventsAskFew.{asks_left, left_of}
use Rattle.sl_trace.specs.declared.command.Command.TheVariants.{GetLvb, RemLockspace, SetLvb}
use Rattle.sl_trace.specs.EffectTexts.{is_ok_reply}
use Rattle.sl_trace.specs.declared.effects.Effects.{Effects}
use Rattle.sl_trace.specs.declared.effects.JobReply.{JobReply}
use Rattle.sl_trace.specs.declared.effects.Mode.{Mode}
use Rattle.sl_trace.specs.declared.input.Input.TheVariants.{Answer as Heard, Exit, Line, Number, Spawned, Wake}
use Rattle.sl_trace.specs.declared.input.Input.{Input}
use Rattle.sl_trace.specs.declared.reply.Reply.TheVariants.{Ahead, BadCommand as Misread, Busy, Done, Generation, Granted, Held, Hosts, IdHeld, IdLate, IdLost, IoFault, IoTimeout, Joined, Joining as StillJoining, Limit, NoOrphan, NoProcess, NoSession, NotHeld, Pending, Recovering, RequestOld, Rival, Sessions, Shared, SpawnFault, Started, TornBlock, TornDelta, TornLeader, Value, ValueSet, ValueTorn, WrongArea, WrongDelta}
use Rattle.sl_trace.specs.declared.reply.Reply.{Reply}
use Rattle.std.proofs.Common.{arith, refl, subst, sym, tests}
use Rattle.std.specs.Option.{option_map_or}
use Rattle.std.specs.Prelude.{Bool, Err, List, None, Ok, Option, Result, Some, false, find, if◌then◌else◌, nat_lt, option_and_then, suc, true, [], ℕ, ◌&&◌, ◌+◌, ◌-◌, ◌<◌, ◌==◌, ◌∷◌, ◌≡◌, ◌≤◌}

-- How many asks a turn leaves.
abbrev pub turn_left : Lvm × LvmOut → ℕ
turn_left (m, Ask text) = option_map_or (left_of m.retries) m.course 1
turn_left (m, LineReply text) = 0
turn_left (m, Quiet) = 0

-- A turn with at most so many left, that leaves how often an acquire is asked again.
pub record Leaves (retries n : ℕ) (t : Lvm × LvmOut) : Type 0 where
  pub left : turn_left t ≤ n
  pub same : t.0.retries ≡ retries

-- ---- parts of a turn

told : (text : List ℕ) (m : Lvm) (n : ℕ) → Leaves m.retries n (tells text m)
told text m n = record { left = zero_least n; same = refl }

asked_lock : (l : Lock) (mode : Mode) (again : ℕ) (compares : Bool) (m : Lvm) (n : ℕ) → (m.retries - again) + 2 ≤ n → Leaves m.retries n (asks_lock l mode again compares m)
asked_lock l mode again compares m n h = record { left = h; same = refl }

released : (l : Lock) (refused : Option Reply) (m : Lvm) (n : ℕ) → 1 ≤ n → Leaves m.retries n (asks_release l refused m)
released l refused m n h = record { left = h; same = refl }

-- ---- a line begins

fits : (r : ℕ) → 1 ≤ r + 2
fits r = omega arith

fits_two : (r : ℕ) → 2 ≤ r + 2
fits_two r = omega arith

first_time : (r : ℕ) → (r - 0) + 2 ≤ r + 2
first_time r = omega arith

if_held : (l : Lock) (f : Lvm → Lvm × LvmOut) (m : Lvm) (t : Bool) → Leaves m.retries (m.retries + 2) (f m)
    → Leaves m.retries (m.retries + 2) (elim t as (λ x. Lvm × LvmOut) [ true ↦ f m | false ↦ passes_on NotHeld m ])
if_held l f m true h = h
if_held l f m false h = record { left = zero_least (m.retries + 2); same = refl }

stops : (m : Lvm) (id : ℕ) (group : List ℕ) (t : Bool)
    → Leaves m.retries (m.retries + 2) (elim t as (λ x. Lvm × LvmOut) [ true ↦ passes_on (Busy lock_process) m | false ↦ asks (RemLockspace (lockspace_of group id)) Moving m ])
stops m id group true = record { left = zero_least (m.retries + 2); same = refl }
stops m id group false = record { left = fits m.retries; same = refl }

deactivates : (m : Lvm) (o : Option HeldLock)
    → Leaves m.retries (m.retries + 2) (elim o as (λ x. Lvm × LvmOut) [ None ↦ passes_on NotHeld m | Some h ↦ asks_release h.lock None m ])
deactivates m None = record { left = zero_least (m.retries + 2); same = refl }
deactivates m (Some h) = record { left = fits m.retries; same = refl }

begun : (m : Lvm) (l : LvmLine) → Leaves m.retries (m.retries + 2) (begins m l)
unfolding begins
begun m (Starts group id) = record { left = fits m.retries; same = refl }
begun m (Stops group id) = stops m id group (has_volume m group)
begun m (Takes l mode) = asked_lock l mode 0 false m (m.retries + 2) (first_time m.retries)
begun m (Takes_comparing l mode) = asked_lock l mode 0 true m (m.retries + 2) (first_time m.retries)
begun m (Gives l) = if_held l (asks_release l None) m (is_held m l) (released l None m (m.retries + 2) (fits m.retries))
begun m (Gives_writing l) = if_held l (asks (SetLvb (resource_of m.area l) lock_process (1 ∷ [])) (Writing l)) m (is_held m l) (record { left = fits_two m.retries; same = refl })
begun m (Deactivates group name) = deactivates m (first_held m group name)
begun m Informs = record { left = zero_least (m.retries + 2); same = refl }

line_begun : (m : Lvm) (o : Result LvmLine ℕ) → Leaves m.retries (m.retries + 2) (begins_line m o)
line_begun m (Ok l) = begun m l
line_begun m (Err column) = record { left = zero_least (m.retries + 2); same = refl }

-- ---- a reply

lost_again : (r again : ℕ) → again < r → (r - (again + 1)) + 2 ≤ (r - again) + 1
lost_again r again h = omega (arith, h)

fits_again : (r again : ℕ) → 1 ≤ (r - again) + 1
fits_again r again = omega arith

acquires_again : (m : Lvm) (l : Lock) (mode : Mode) (again : ℕ) (compares : Bool) (r : Reply) (lost less : Bool) → (less ≡ true → again < m.retries)
    → Leaves m.retries ((m.retries - again) + 1) (if lost && less then asks_lock l mode (again + 1) compares m else passes_on r m)
acquires_again m l mode again compares r true true h = record { left = lost_again m.retries again (h refl); same = refl }
acquires_again m l mode again compares r true false h = record { left = zero_least ((m.retries - again) + 1); same = refl }
acquires_again m l mode again compares r false less h = record { left = zero_least ((m.retries - again) + 1); same = refl }

acquired : (m : Lvm) (l : Lock) (mode : Mode) (again : ℕ) (compares : Bool) (r : Reply) (ok : Bool) → (nat_lt again m.retries ≡ true → again < m.retries)
    → Leaves m.retries ((m.retries - again) + 1) (if ok then
    (if compares then asks (GetLvb (resource_of m.area l) lock_process) (Reading l) (with_lock l mode m) else passes_on r (with_lock l mode m))
    else (if is_lost r && nat_lt again m.retries then asks_lock l mode (again + 1) compares m
    else passes_on r m))
acquired m l mode again true r true h = record { left = fits_again m.retries again; same = refl }
acquired m l mode again false r true h = record { left = zero_least ((m.retries - again) + 1); same = refl }
acquired m l mode again compares r false h = acquires_again m l mode again compares r (is_lost r) (nat_lt again m.retries) h

read_value : (m : Lvm) (l : Lock) (r : Reply) → Leaves m.retries 0 (after_reading m l r)
read_value m l Done = record { left = zero_least 0; same = refl }
read_value m l (Generation generation) = record { left = zero_least 0; same = refl }
read_value m l (Granted lver) = record { left = zero_least 0; same = refl }
read_value m l (Started lver process) = record { left = zero_least 0; same = refl }
read_value m l (Value lver seq bytes) = record { left = zero_least 0; same = refl }
read_value m l (ValueSet lver seq) = record { left = zero_least 0; same = refl }
read_value m l (Hosts all) = record { left = zero_least 0; same = refl }
read_value m l (Sessions all) = record { left = zero_least 0; same = refl }
read_value m l NoSession = record { left = zero_least 0; same = refl }
read_value m l StillJoining = record { left = zero_least 0; same = refl }
read_value m l (Recovering renewed) = record { left = zero_least 0; same = refl }
read_value m l (IdHeld first later) = record { left = zero_least 0; same = refl }
read_value m l (IdLost own found) = record { left = zero_least 0; same = refl }
read_value m l (IdLate claimed now) = record { left = zero_least 0; same = refl }
read_value m l TornDelta = record { left = zero_least 0; same = refl }
read_value m l TornLeader = record { left = zero_least 0; same = refl }
read_value m l (TornBlock host) = record { left = zero_least 0; same = refl }
read_value m l (Held lver owner) = record { left = zero_least 0; same = refl }
read_value m l (Shared owner) = record { left = zero_least 0; same = refl }
read_value m l (Rival host mbal) = record { left = zero_least 0; same = refl }
read_value m l (Ahead host lver) = record { left = zero_least 0; same = refl }
read_value m l (IoTimeout call from to) = record { left = zero_least 0; same = refl }
read_value m l (IoFault call) = record { left = zero_least 0; same = refl }
read_value m l (Pending call) = record { left = zero_least 0; same = refl }
read_value m l (Busy process) = record { left = zero_least 0; same = refl }
read_value m l NoOrphan = record { left = zero_least 0; same = refl }
read_value m l NotHeld = record { left = zero_least 0; same = refl }
read_value m l SpawnFault = record { left = zero_least 0; same = refl }
read_value m l ValueTorn = record { left = zero_least 0; same = refl }
read_value m l (Misread column) = record { left = zero_least 0; same = refl }
read_value m l (Limit which) = record { left = zero_least 0; same = refl }
read_value m l (RequestOld held stored) = record { left = zero_least 0; same = refl }
read_value m l (WrongArea lockspace resource hosts) = record { left = zero_least 0; same = refl }
read_value m l (WrongDelta lockspace id) = record { left = zero_least 0; same = refl }
read_value m l (NoProcess process) = record { left = zero_least 0; same = refl }
read_value m l (Joined generation) = record { left = zero_least 0; same = refl }

one_left : 1 ≤ 1
one_left = omega arith

wrote_value : (m : Lvm) (l : Lock) (r : Reply) → Leaves m.retries 1 (after_writing m l r)
wrote_value m l Done = record { left = one_left; same = refl }
wrote_value m l (Generation generation) = record { left = one_left; same = refl }
wrote_value m l (Granted lver) = record { left = one_left; same = refl }
wrote_value m l (Started lver process) = record { left = one_left; same = refl }
wrote_value m l (Value lver seq bytes) = record { left = one_left; same = refl }
wrote_value m l (ValueSet lver seq) = record { left = one_left; same = refl }
wrote_value m l (Hosts all) = record { left = one_left; same = refl }
wrote_value m l (Sessions all) = record { left = one_left; same = refl }
wrote_value m l NoSession = record { left = one_left; same = refl }
wrote_value m l StillJoining = record { left = one_left; same = refl }
wrote_value m l (Recovering renewed) = record { left = one_left; same = refl }
wrote_value m l (IdHeld first later) = record { left = one_left; same = refl }
wrote_value m l (IdLost own found) = record { left = one_left; same = refl }
wrote_value m l (IdLate claimed now) = record { left = one_left; same = refl }
wrote_value m l TornDelta = record { left = one_left; same = refl }
wrote_value m l TornLeader = record { left = one_left; same = refl }
wrote_value m l (TornBlock host) = record { left = one_left; same = refl }
wrote_value m l (Held lver owner) = record { left = one_left; same = refl }
wrote_value m l (Shared owner) = record { left = one_left; same = refl }
wrote_value m l (Rival host mbal) = record { left = one_left; same = refl }
wrote_value m l (Ahead host lver) = record { left = one_left; same = refl }
wrote_value m l (IoTimeout call from to) = record { left = one_left; same = refl }
wrote_value m l (IoFault call) = record { left = one_left; same = refl }
wrote_value m l (Pending call) = record { left = one_left; same = refl }
wrote_value m l (Busy process) = record { left = one_left; same = refl }
wrote_value m l NoOrphan = record { left = one_left; same = refl }
wrote_value m l NotHeld = record { left = one_left; same = refl }
wrote_value m l SpawnFault = record { left = one_left; same = refl }
wrote_value m l ValueTorn = record { left = one_left; same = refl }
wrote_value m l (Misread column) = record { left = one_left; same = refl }
wrote_value m l (Limit which) = record { left = one_left; same = refl }
wrote_value m l (RequestOld held stored) = record { left = one_left; same = refl }
wrote_value m l (WrongArea lockspace resource hosts) = record { left = one_left; same = refl }
wrote_value m l (WrongDelta lockspace id) = record { left = one_left; same = refl }
wrote_value m l (NoProcess process) = record { left = one_left; same = refl }
wrote_value m l (Joined generation) = record { left = one_left; same = refl }

went_on : (m : Lvm) (r : Reply) (c : Course) → (n : ℕ) × (left_of m.retries c ≡ n + 1) × Leaves m.retries n (goes_on_with m r c)
unfolding goes_on_with
went_on m r Moving = (0, refl, record { left = zero_least 0; same = refl })
went_on m r (Acquiring l mode again compares) =
    ((m.retries - again) + 1, two_more (m.retries - again), acquired m l mode again compares r (is_ok_reply r) (λ h. less h))
  where
    two_more : (k : ℕ) → k + 2 ≡ (k + 1) + 1
    two_more k = omega arith

    less : nat_lt again m.retries ≡ true → again < m.retries
    less h = grind (arith, tests, h)
went_on m r (Reading l) = (0, refl, read_value m l r)
went_on m r (Writing l) = (1, refl, wrote_value m l r)
went_on m r (Releasing l refused) = (0, refl, record { left = zero_least 0; same = refl })

-- A reply to the last ask of a line that came so far leaves fewer.
replied_by : (m : Lvm) (r : Reply) (o : Option Course) (n : ℕ) → option_map_or (left_of m.retries) o 1 ≤ n + 1
    → Leaves m.retries n (elim o as (λ x. Lvm × LvmOut) [ None ↦ (m, Quiet) | Some course ↦ goes_on_with m r course ])
replied_by m r None n h = record { left = zero_least n; same = refl }
replied_by m r (Some c) n h =
    let p = went_on m r c in
    let left : turn_left (goes_on_with m r c) ≤ p.0 = p.2.left in
    record { left = omega (arith, h, p.1, left); same = p.2.same }

-- .. and none leaves more than a line may begin with.
most_left : (m : Lvm) (c : Course) → left_of m.retries c ≤ (m.retries + 2) + 1
most_left m Moving = omega arith
most_left m (Acquiring l mode again compares) = omega arith
most_left m (Reading l) = omega arith
most_left m (Writing l) = omega arith
most_left m (Releasing l refused) = omega arith

most_by : (m : Lvm) (o : Option Course) → option_map_or (left_of m.retries) o 1 ≤ (m.retries + 2) + 1
most_by m None = omega arith
most_by m (Some c) = most_left m c

-- ---- the locks

-- Locks with at most so many asks left, that ask again as often as before.
pub record LocksLeave (retries n : ℕ) (k : Locks) : Type 0 where
  pub left : asks_left k ≤ n
  pub same : k.lvm.retries ≡ retries

after_by : (k : Locks) (n : ℕ) (t : Lvm × LvmOut) → k.due ≡ None → Leaves k.lvm.retries n t → LocksLeave k.lvm.retries n (after_turn k t).0
after_by k n (m, Ask text) none h = record { left = h.left; same = h.same }
after_by k n (m, LineReply text) none h = record { left = zero_least n; same = h.same }
after_by k n (m, Quiet) none h = record { left = rw none (zero_least n); same = h.same }

replied_at : (fx : Effects) (k : Locks) (n : ℕ) (o : Option JobReply) → k.due ≡ None → ((r : Reply) → Leaves k.lvm.retries n (lvm_turn k.lvm (HostReply r)))
    → LocksLeave k.lvm.retries n (elim o as (λ x. Locks × Told) [ None ↦ (k, None) | Some a ↦ after_turn k (lvm_turn k.lvm (HostReply a.reply)) ]).0
replied_at fx k n None none each = record { left = rw none (zero_least n); same = refl }
replied_at fx k n (Some a) none each = after_by k n (lvm_turn k.lvm (HostReply a.reply)) none (each a.reply)

reply_left : (k : Locks) (n : ℕ) (r : Reply) → option_map_or (left_of k.lvm.retries) k.lvm.course 1 ≤ n + 1 → Leaves k.lvm.retries n (lvm_turn k.lvm (HostReply r))
unfolding lvm_turn
reply_left k n r h = replied_by k.lvm r k.lvm.course n h

-- After the replies of a step.
replied : (fx : Effects) (k : Locks) (n : ℕ) → k.due ≡ None → option_map_or (left_of k.lvm.retries) k.lvm.course 1 ≤ n + 1 → LocksLeave k.lvm.retries n (replied_locks fx k).0
replied fx k n none h = replied_at fx k n (option_and_then (λ m. find (λ a. a.job == m) fx.replies) k.asked) none (λ r. reply_left k n r h)

line_left : (k : Locks) (text : List ℕ) → Leaves k.lvm.retries (k.lvm.retries + 2) (lvm_turn k.lvm (TextLine text))
unfolding lvm_turn
line_left k text = line_begun k.lvm (lvm_line_in k.lvm.area text)

ended_by : (i : Input) (retries n : ℕ) (p : Locks × Told) (t : Bool) → LocksLeave retries n p.0
    → LocksLeave retries n (elim t as (λ x. Locks × Told) [ false ↦ p | true ↦ ((after_turn p.0 (lvm_turn p.0.lvm Ended)).0, p.1) ]).0
unfolding lvm_turn
ended_by i retries n p false h = h
ended_by i retries n p true h = record { left = h.left; same = h.same }

given_line : (number : ℕ) (text : List ℕ) (k : Locks) → k.due ≡ None → numbered_locks number (Line text) k ≡ k
given_line number text k none = rw none refl

-- What a step makes of the locks when those have left that it ends.
abbrev step_of : ℕ → Input → Effects → Locks → Locks × Told
step_of number i fx k = ended_locks i (turned_locks i fx (numbered_locks number i k))

step_left : (number : ℕ) (i : Input) (fx : Effects) (k : Locks) → k.due ≡ None → LocksLeave k.lvm.retries (k.lvm.retries + 2) (step_of number i fx k).0
step_left number (Number text) fx k none = after_by (record k { line = Some number }) (k.lvm.retries + 2) (lvm_turn k.lvm (TextLine text)) none (line_left k text)
step_left number (Line text) fx k none =
    subst (λ (x : Locks). LocksLeave k.lvm.retries (k.lvm.retries + 2) (replied_locks fx x).0) (sym (given_line number text k none)) (replied fx k (k.lvm.retries + 2) none (most_by k.lvm k.lvm.course))
step_left number (Heard n answer) fx k none = replied fx k (k.lvm.retries + 2) none (most_by k.lvm k.lvm.course)
step_left number Wake fx k none = replied fx k (k.lvm.retries + 2) none (most_by k.lvm k.lvm.course)
step_left number (Exit p) fx k none =
    ended_by (Exit p) k.lvm.retries (k.lvm.retries + 2) (replied_locks fx k) (is_lock_exit (Exit p)) (replied fx k (k.lvm.retries + 2) none (most_by k.lvm k.lvm.course))
step_left number (Spawned p ok) fx k none = replied fx k (k.lvm.retries + 2) none (most_by k.lvm k.lvm.course)

-- Whatever comes where no ask is due, leaves few.
pub few_left : (number : ℕ) (i : Input) (fx : Effects) (k : Locks) → k.due ≡ None → LocksLeave k.lvm.retries (k.lvm.retries + 2) (locks_after number i fx k).0
unfolding locks_after
few_left number i fx k none = let x = step_left number i fx (left_locks fx k) none in record { left = x.left; same = x.same }

given_ask : (number : ℕ) (text given : List ℕ) (k : Locks) → k.due ≡ Some text → numbered_locks number (Line given) k ≡ record k { asked = Some number; due = None }
given_ask number text given k is = rw is refl

-- An ask that is given leaves fewer.
ask_left : (number : ℕ) (text given : List ℕ) (fx : Effects) (k : Locks) (n : ℕ) → k.due ≡ Some text → option_map_or (left_of k.lvm.retries) k.lvm.course 1 ≤ n + 1
    → LocksLeave k.lvm.retries n (step_of number (Line given) fx k).0
ask_left number text given fx k n is h =
    subst (λ (x : Locks). LocksLeave k.lvm.retries n (replied_locks fx x).0) (sym (given_ask number text given k is))
    (replied fx (record k { asked = Some number; due = None }) n refl h)

due_left : (k : Locks) (text : List ℕ) (n : ℕ) → k.due ≡ Some text → asks_left k ≤ n → option_map_or (left_of k.lvm.retries) k.lvm.course 1 ≤ n
due_left k text n is h = subst (λ (o : Option (List ℕ)). elim o as (λ x. ℕ) [ None ↦ 0 | Some t ↦ option_map_or (left_of k.lvm.retries) k.lvm.course 1 ] ≤ n) is h

pub fewer_left : (number : ℕ) (text given : List ℕ) (fx : Effects) (k : Locks) (n : ℕ) → k.due ≡ Some text → asks_left k ≤ suc n
    → LocksLeave k.lvm.retries n (locks_after number (Line given) fx k).0
unfolding locks_after
fewer_left number text given fx k n is h =
    let left : option_map_or (left_of k.lvm.retries) k.lvm.course 1 ≤ suc n = due_left k text (suc n) is h in
    let x = ask_left number text given fx (left_locks fx k) n is (omega (arith, left)) in
    record { left = x.left; same = x.same }
