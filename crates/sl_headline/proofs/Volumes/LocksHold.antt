-- What holds of the locks of a machine at each moment: how far a line has come is fair, and what is asked is its ask.
use Rattle.sl_run.specs.LockNames.{Lock, resource_of}
use Rattle.sl_run.specs.Lvm.{Acquiring, Course, Lvm, Moving, Reading, Releasing, Writing, asks, comparison, is_seen, lock_process, lvm_turn, tells, with_lock, with_seen, without_seen}
use Rattle.sl_run.specs.LvmLines.{Gives_writing, LvmLine, Takes, Takes_comparing, lvm_line_in}
use Rattle.sl_run.specs.declared.turn.LvmIn.TheVariants.{Ended, Line as TextLine, Reply as HostReply}
use Rattle.sl_run.specs.declared.turn.LvmOut.{LvmOut}
use Rattle.sl_run.specs.Locks.{Locks, Told, after_turn, is_lock_exit, left_locks, locks_after, numbered_locks, replied_locks, turned_locks}
use Rattle.sl_text.specs.Forms.{spaced}
use Rattle.sl_trace.specs.CommandForms.{command_words}
use Rattle.sl_trace.specs.EffectTexts.{reply_text}
use Rattle.sl_trace.specs.Traces.{is_shared}
use Rattle.sl_trace.specs.declared.command.Command.TheVariants.{Acquire, GetLvb, Release, SetLvb}
use Rattle.sl_trace.specs.declared.command.Command.{Command}
use Rattle.sl_trace.specs.declared.effects.Effects.{Effects}
use Rattle.sl_trace.specs.declared.effects.JobReply.{JobReply}
use Rattle.sl_trace.specs.declared.effects.Mode.{Mode}
use Rattle.sl_trace.specs.declared.input.Input.TheVariants.{Answer as Heard, Exit, Line, Number, Spawned, Wake}
use Rattle.sl_trace.specs.declared.input.Input.{Input}
use Rattle.sl_trace.specs.declared.reply.Reply.{Reply}
use Rattle.sl_headline.proofs.Volumes.GroupLines.{compares_group, writes_group}
use Rattle.sl_headline.proofs.Volumes.LockTurns.{Asks_again, HostTurn, LineTurn, Line_compares, Line_gives, Line_moves, Line_takes, Line_told, Line_writes, Moved, Read_none, Read_torn, Read_value, Released, Took_lock, Took_to_read, Wrote_none, Wrote_value, line_turn, quiet_turn, reply_turn}
use Rattle.sl_headline.specs.Volumes.LockAsks.{IsAskOf, IsFairCourse}
use Rattle.sl_words.proofs.Numbers.{zero_least}
use Rattle.sl_words.proofs.CaseLaws.{false_is_true, none_some, some_value}
use Rattle.std.proofs.Common.{ap, arith, refl, subst, sym, ◌∙◌}
use Rattle.std.specs.Prelude.{Bool, List, None, Ok, Option, Some, false, find, if◌then◌else◌, is_some, option_and_then, true, [], ℕ, ◌+◌, ◌<◌, ◌==◌, ◌∷◌, ◌≡◌, ◌≤◌}

-- ---- what a step does to the locks

-- What the line or the reply of a step makes of the locks, before lvmlockd's own end.
pub data LocksStep (i : Input) (fx : Effects) (k : Locks) (q : Locks × Told) : Type 0 where
  Line_given : (text : List ℕ) (t : Lvm × LvmOut) → i ≡ Number text → LineTurn k.lvm (lvm_line_in k.lvm.area text) t → q ≡ after_turn k t → LocksStep i fx k q
  Reply_given : (n : ℕ) (a : JobReply) (c : Course) (t : Lvm × LvmOut) → k.asked ≡ Some n → find (λ (b : JobReply). b.job == n) fx.replies ≡ Some a
      → k.lvm.course ≡ Some c → HostTurn k.lvm a.reply c t → q ≡ after_turn k t → LocksStep i fx k q
  None_given : q ≡ (k, None) → LocksStep i fx k q

course_by : (i : Input) (fx : Effects) (k : Locks) (n : ℕ) (a : JobReply) (o : Option Course) → k.lvm.course ≡ o → k.asked ≡ Some n
    → find (λ (b : JobReply). b.job == n) fx.replies ≡ Some a → LocksStep i fx k (after_turn k (lvm_turn k.lvm (HostReply a.reply)))
course_by i fx k n a None is asked found = None_given (ap (after_turn k) (quiet_turn k.lvm a.reply is))
course_by i fx k n a (Some c) is asked found = Reply_given n a c (lvm_turn k.lvm (HostReply a.reply)) asked found is (reply_turn k.lvm a.reply c is) refl

found_by : (i : Input) (fx : Effects) (k : Locks) (n : ℕ) (o : Option JobReply) → k.asked ≡ Some n → find (λ (b : JobReply). b.job == n) fx.replies ≡ o
    → LocksStep i fx k (elim o as (λ x. Locks × Told) [ None ↦ (k, None) | Some a ↦ after_turn k (lvm_turn k.lvm (HostReply a.reply)) ])
found_by i fx k n None asked is = None_given refl
found_by i fx k n (Some a) asked is = course_by i fx k n a k.lvm.course refl asked is

asked_by : (i : Input) (fx : Effects) (k : Locks) (o : Option ℕ) → k.asked ≡ o
    → LocksStep i fx k (elim (option_and_then (λ n. find (λ (b : JobReply). b.job == n) fx.replies) o) as (λ x. Locks × Told) [
      | None ↦ (k, None)
      | Some a ↦ after_turn k (lvm_turn k.lvm (HostReply a.reply))
    ])
asked_by i fx k None is = None_given refl
asked_by i fx k (Some n) is = found_by i fx k n (find (λ (b : JobReply). b.job == n) fx.replies) is refl

replied : (i : Input) (fx : Effects) (k : Locks) → LocksStep i fx k (replied_locks fx k)
replied i fx k = asked_by i fx k k.asked refl

turned_is : (i : Input) (fx : Effects) (k : Locks) → LocksStep i fx k (turned_locks i fx k)
turned_is (Number text) fx k = Line_given text (lvm_turn k.lvm (TextLine text)) refl (line_turn k.lvm text) refl
turned_is (Line text) fx k = replied (Line text) fx k
turned_is (Heard n answer) fx k = replied (Heard n answer) fx k
turned_is Wake fx k = replied Wake fx k
turned_is (Exit p) fx k = replied (Exit p) fx k
turned_is (Spawned p ok) fx k = replied (Spawned p ok) fx k

-- The locks with nothing held or known.
abbrev pub emptied : Locks → Locks
emptied k = record k { lvm = record k.lvm { held = []; seen = [] } }

-- The locks after a step: those of its turn, which come when those have left that it ends; emptied where lvmlockd ends.
pub record LocksAfter (number : ℕ) (i : Input) (fx : Effects) (k : Locks) : Type 0 where
  pub turn : Locks × Told
  pub step : LocksStep i fx (numbered_locks number i (left_locks fx k)) turn
  pub ends : Bool
  pub is_end : is_lock_exit i ≡ ends
  pub same : (locks_after number i fx k).0 ≡ (if ends then emptied turn.0 else turn.0)
  pub told : (locks_after number i fx k).1 ≡ turn.1

pub ended_by : (p : Locks × Told) (t : Bool)
    → elim t as (λ x. Locks × Told) [ false ↦ p | true ↦ ((after_turn p.0 (lvm_turn p.0.lvm Ended)).0, p.1) ] ≡ (if t then emptied p.0 else p.0, p.1)
unfolding lvm_turn
ended_by p true = refl
ended_by p false = refl

pub locks_step : (number : ℕ) (i : Input) (fx : Effects) (k : Locks) → LocksAfter number i fx k
unfolding locks_after
locks_step number i fx k =
    let n : Locks = numbered_locks number i (left_locks fx k) in
    record {
      turn = turned_locks i fx n;
      step = turned_is i fx n;
      ends = is_lock_exit i;
      is_end = refl;
      same = ap (λ (p : Locks × Told). p.0) (ended_by (turned_locks i fx n) (is_lock_exit i));
      told = ap (λ (p : Locks × Told). p.1) (ended_by (turned_locks i fx n) (is_lock_exit i));
    }

-- ---- what holds of the locks

-- So far as the locks alone tell, in a world with areas of this size and so many retries.
pub record LocksHold (area retries : ℕ) (k : Locks) : Type 0 where
  pub area_is : k.lvm.area ≡ area
  pub retries_are : k.lvm.retries ≡ retries
  pub fair : (c : Course) → k.lvm.course ≡ Some c → IsFairCourse area retries c
  pub runs : (c : Course) → k.lvm.course ≡ Some c → is_some k.line ≡ true
  pub asks : (c : Course) (text : List ℕ) → k.lvm.course ≡ Some c → k.due ≡ Some text → IsAskOf area c text
  -- an ask that was given is due no more
  pub given : (n : ℕ) → k.asked ≡ Some n → k.due ≡ None

-- Where an ask is made.
asks_hold : (area retries : ℕ) (k : Locks) (m : Lvm) (c : Command) (course : Course) → m.area ≡ area → m.retries ≡ retries → is_some k.line ≡ true
    → IsFairCourse area retries course
    → IsAskOf area course (spaced (command_words c)) → LocksHold area retries (after_turn k (asks c course m)).0
asks_hold area retries k m c course size most line fair ask =
    record {
      area_is = size;
      retries_are = most;
      fair = λ d is. subst (IsFairCourse area retries) (some_value course d is) fair;
      runs = λ d is. line;
      asks = λ d text is due. subst (λ y. IsAskOf area y text) (some_value course d is) (subst (IsAskOf area course) (some_value (spaced (command_words c)) text due) ask);
      given = λ n is. absurd (none_some n is);
    }

-- Where the line is answered.
tells_hold : (area retries : ℕ) (k : Locks) (m : Lvm) (text : List ℕ) → m.area ≡ area → m.retries ≡ retries → LocksHold area retries (after_turn k (tells text m)).0
tells_hold area retries k m text size most =
    record {
      area_is = size;
      retries_are = most;
      fair = λ d is. absurd (none_some d is);
      runs = λ d is. absurd (none_some d is);
      asks = λ d t is due. absurd (none_some d is);
      given = λ n is. absurd (none_some n is);
    }

the_ask : (area : ℕ) (c d : Command) → Some c ≡ Some d → spaced (command_words c) ≡ spaced (command_words d)
the_ask area c d h = ap (λ e. spaced (command_words e)) (some_value c d h)

no_ask : (text : List ℕ) (d : Command) → None ≡ Some d → text ≡ spaced (command_words d)
no_ask text d h = absurd (none_some d h)

sized : (area : ℕ) (l : Lock) (mode : Mode) (size : ℕ) (d : Command) → size ≡ area → Some (Acquire (resource_of area l) (is_shared mode) lock_process false) ≡ Some d
    → spaced (command_words (Acquire (resource_of size l) (is_shared mode) lock_process false)) ≡ spaced (command_words d)
sized area l mode size d same h =
    ap (λ n. spaced (command_words (Acquire (resource_of n l) (is_shared mode) lock_process false))) same
    ∙ the_ask area (Acquire (resource_of area l) (is_shared mode) lock_process false) d h

reads : (area : ℕ) (l : Lock) (size : ℕ) (d : Command) → size ≡ area → Some (GetLvb (resource_of area l) lock_process) ≡ Some d
    → spaced (command_words (GetLvb (resource_of size l) lock_process)) ≡ spaced (command_words d)
reads area l size d same h =
    ap (λ n. spaced (command_words (GetLvb (resource_of n l) lock_process))) same ∙ the_ask area (GetLvb (resource_of area l) lock_process) d h

writes : (area : ℕ) (l : Lock) (size : ℕ) (d : Command) → size ≡ area → Some (SetLvb (resource_of area l) lock_process (1 ∷ [])) ≡ Some d
    → spaced (command_words (SetLvb (resource_of size l) lock_process (1 ∷ []))) ≡ spaced (command_words d)
writes area l size d same h =
    ap (λ n. spaced (command_words (SetLvb (resource_of n l) lock_process (1 ∷ [])))) same ∙ the_ask area (SetLvb (resource_of area l) lock_process (1 ∷ [])) d h

-- A line that was read with the locks' own size of areas is one with the world's.
abbrev named : (area size : ℕ) (text : List ℕ) (x : LvmLine) → lvm_line_in size text ≡ Ok x → size ≡ area → lvm_line_in area text ≡ Ok x
named area size text x h same = subst (λ n. lvm_line_in n text ≡ Ok x) same h

-- After the turn of a line.
line_holds : (area retries : ℕ) (k : Locks) (text : List ℕ) (t : Lvm × LvmOut) → LocksHold area retries k → is_some k.line ≡ true
    → LineTurn k.lvm (lvm_line_in k.lvm.area text) t → LocksHold area retries (after_turn k t).0
line_holds area retries k text t h line (Line_told told is) =
    subst (λ (y : Lvm × LvmOut). LocksHold area retries (after_turn k y).0) (sym is) (tells_hold area retries k k.lvm told h.area_is h.retries_are)
line_holds area retries k text t h line (Line_moves c is) =
    subst (λ (y : Lvm × LvmOut). LocksHold area retries (after_turn k y).0) (sym is)
    (asks_hold area retries k k.lvm c Moving h.area_is h.retries_are line tt (λ d ask. no_ask (spaced (command_words c)) d ask))
line_holds area retries k text t h line (Line_takes l mode read is) =
    subst (λ (y : Lvm × LvmOut). LocksHold area retries (after_turn k y).0) (sym is)
    (asks_hold area retries k k.lvm (Acquire (resource_of k.lvm.area l) (is_shared mode) lock_process false) (Acquiring l mode 0 false) h.area_is h.retries_are line
    (zero_least retries, (text, Takes l mode, named area k.lvm.area text (Takes l mode) read h.area_is, refl), λ yes. absurd (false_is_true yes))
    (λ d ask. sized area l mode k.lvm.area d h.area_is ask))
line_holds area retries k text t h line (Line_compares l mode read is) =
    subst (λ (y : Lvm × LvmOut). LocksHold area retries (after_turn k y).0) (sym is)
    (asks_hold area retries k k.lvm (Acquire (resource_of k.lvm.area l) (is_shared mode) lock_process false) (Acquiring l mode 0 true) h.area_is h.retries_are line (
      zero_least retries,
      (text, Takes_comparing l mode, named area k.lvm.area text (Takes_comparing l mode) read h.area_is, refl),
      λ yes. compares_group k.lvm.area text l mode read,
    )
    (λ d ask. sized area l mode k.lvm.area d h.area_is ask))
line_holds area retries k text t h line (Line_writes l read is) =
    subst (λ (y : Lvm × LvmOut). LocksHold area retries (after_turn k y).0) (sym is)
    (asks_hold area retries k k.lvm (SetLvb (resource_of k.lvm.area l) lock_process (1 ∷ [])) (Writing l) h.area_is h.retries_are line
    ((text, Gives_writing l, named area k.lvm.area text (Gives_writing l) read h.area_is, refl), writes_group k.lvm.area text l read)
    (λ d ask. writes area l k.lvm.area d h.area_is ask))
line_holds area retries k text t h line (Line_gives l is) =
    subst (λ (y : Lvm × LvmOut). LocksHold area retries (after_turn k y).0) (sym is)
    (asks_hold area retries k k.lvm (Release (resource_of k.lvm.area l) lock_process) (Releasing l None) h.area_is h.retries_are line tt
    (λ d ask. no_ask (spaced (command_words (Release (resource_of k.lvm.area l) lock_process))) d ask))

abbrev fair_of : (area retries : ℕ) (k : Locks) (c d : Course) → LocksHold area retries k → k.lvm.course ≡ Some c → c ≡ d → IsFairCourse area retries d
fair_of area retries k c d h is same = subst (IsFairCourse area retries) same (h.fair c is)

fewer : (again retries size : ℕ) → again < size → size ≡ retries → again + 1 ≤ retries
fewer again retries size less same = omega (arith, less, same)

-- After the turn of a reply.
host_holds : (area retries : ℕ) (k : Locks) (r : Reply) (c : Course) (t : Lvm × LvmOut) → LocksHold area retries k → k.lvm.course ≡ Some c → HostTurn k.lvm r c t
    → LocksHold area retries (after_turn k t).0
host_holds area retries k r c t h at (Moved is) =
    subst (λ (y : Lvm × LvmOut). LocksHold area retries (after_turn k y).0) (sym is) (tells_hold area retries k k.lvm (reply_text r) h.area_is h.retries_are)
host_holds area retries k r c t h at (Took_to_read l mode again was ok is) =
    let fair = fair_of area retries k c (Acquiring l mode again true) h at was in
    subst (λ (y : Lvm × LvmOut). LocksHold area retries (after_turn k y).0) (sym is)
    (asks_hold area retries k (with_lock l mode k.lvm) (GetLvb (resource_of k.lvm.area l) lock_process) (Reading l) h.area_is h.retries_are (h.runs c at)
    (fair.1, fair.2 refl) (λ d ask. reads area l k.lvm.area d h.area_is ask))
host_holds area retries k r c t h at (Took_lock l mode again was ok is) =
    subst (λ (y : Lvm × LvmOut). LocksHold area retries (after_turn k y).0) (sym is) (tells_hold area retries k (with_lock l mode k.lvm) (reply_text r) h.area_is h.retries_are)
host_holds area retries k r c t h at (Asks_again l mode again compares was few is) =
    let fair = fair_of area retries k c (Acquiring l mode again compares) h at was in
    subst (λ (y : Lvm × LvmOut). LocksHold area retries (after_turn k y).0) (sym is)
    (asks_hold area retries k k.lvm (Acquire (resource_of k.lvm.area l) (is_shared mode) lock_process false) (Acquiring l mode (again + 1) compares) h.area_is h.retries_are
    (h.runs c at) (fewer again retries k.lvm.retries few h.retries_are, fair.1, fair.2) (λ d ask. sized area l mode k.lvm.area d h.area_is ask))
host_holds area retries k r c t h at (Read_value l lver seq bytes was told is) =
    subst (λ (y : Lvm × LvmOut). LocksHold area retries (after_turn k y).0) (sym is)
    (tells_hold area retries k (with_seen l.group lver seq k.lvm) (comparison (is_seen k.lvm l.group lver seq)) h.area_is h.retries_are)
host_holds area retries k r c t h at (Read_torn l was is) =
    subst (λ (y : Lvm × LvmOut). LocksHold area retries (after_turn k y).0) (sym is)
    (tells_hold area retries k (without_seen l.group k.lvm) (comparison false) h.area_is h.retries_are)
host_holds area retries k r c t h at (Read_none l was other is) =
    subst (λ (y : Lvm × LvmOut). LocksHold area retries (after_turn k y).0) (sym is) (tells_hold area retries k (without_seen l.group k.lvm) (reply_text r) h.area_is h.retries_are)
host_holds area retries k r c t h at (Wrote_value l lver seq was told is) =
    subst (λ (y : Lvm × LvmOut). LocksHold area retries (after_turn k y).0) (sym is)
    (asks_hold area retries k (with_seen l.group lver seq k.lvm) (Release (resource_of k.lvm.area l) lock_process) (Releasing l None) h.area_is h.retries_are (h.runs c at) tt
    (λ d ask. no_ask (spaced (command_words (Release (resource_of k.lvm.area l) lock_process))) d ask))
host_holds area retries k r c t h at (Wrote_none l was is) =
    subst (λ (y : Lvm × LvmOut). LocksHold area retries (after_turn k y).0) (sym is)
    (asks_hold area retries k (without_seen l.group k.lvm) (Release (resource_of k.lvm.area l) lock_process) (Releasing l (Some r)) h.area_is h.retries_are (h.runs c at) tt
    (λ d ask. no_ask (spaced (command_words (Release (resource_of k.lvm.area l) lock_process))) d ask))
host_holds area retries k r c t h at (Released l refused s was is) =
    subst (λ (y : Lvm × LvmOut). LocksHold area retries (after_turn k y).0) (sym is) (tells_hold area retries k k.lvm (reply_text s) h.area_is h.retries_are)

-- ---- a whole step

lvm_by : (number : ℕ) (k : Locks) (o : Option (List ℕ)) → (elim o as (λ x. Locks) [ None ↦ k | Some ask ↦ record k { asked = Some number; due = None } ]).lvm ≡ k.lvm
lvm_by number k None = refl
lvm_by number k (Some ask) = refl

pub numbered_lvm : (number : ℕ) (i : Input) (k : Locks) → (numbered_locks number i k).lvm ≡ k.lvm
numbered_lvm number (Number text) k = refl
numbered_lvm number (Line text) k = lvm_by number k k.due
numbered_lvm number (Heard n answer) k = refl
numbered_lvm number Wake k = refl
numbered_lvm number (Exit p) k = refl
numbered_lvm number (Spawned p ok) k = refl

-- With the step's number.
lined : (area retries number : ℕ) (k : Locks) → LocksHold area retries k → LocksHold area retries (record k { line = Some number })
lined area retries number k h = record { area_is = h.area_is; retries_are = h.retries_are; fair = h.fair; runs = λ c is. refl; asks = h.asks; given = h.given }

given_by : (area retries number : ℕ) (k : Locks) (o : Option (List ℕ)) → LocksHold area retries k
    → LocksHold area retries (elim o as (λ x. Locks) [ None ↦ k | Some ask ↦ record k { asked = Some number; due = None } ])
given_by area retries number k None h = h
given_by area retries number k (Some ask) h =
    record { area_is = h.area_is; retries_are = h.retries_are; fair = h.fair; runs = h.runs; asks = λ c text is none. absurd (none_some text none); given = λ n is. refl }

pub numbered_hold : (area retries number : ℕ) (i : Input) (k : Locks) → LocksHold area retries k → LocksHold area retries (numbered_locks number i k)
numbered_hold area retries number (Number text) k h = lined area retries number k h
numbered_hold area retries number (Line text) k h = given_by area retries number k k.due h
numbered_hold area retries number (Heard n answer) k h = h
numbered_hold area retries number Wake k h = h
numbered_hold area retries number (Exit p) k h = h
numbered_hold area retries number (Spawned p ok) k h = h

line_there : (number : ℕ) (i : Input) (k : Locks) (text : List ℕ) → i ≡ Number text → is_some (numbered_locks number i k).line ≡ true
line_there number i k text is = ap (λ j. is_some (numbered_locks number j k).line) is

turn_holds : (area retries number : ℕ) (i : Input) (fx : Effects) (k : Locks) (q : Locks × Told) → LocksHold area retries (numbered_locks number i k)
    → LocksStep i fx (numbered_locks number i k) q → LocksHold area retries q.0
turn_holds area retries number i fx k q h (Line_given text t is turn same) =
    subst (λ (p : Locks × Told). LocksHold area retries p.0) (sym same) (line_holds area retries (numbered_locks number i k) text t h (line_there number i k text is) turn)
turn_holds area retries number i fx k q h (Reply_given n a c t asked found at turn same) =
    subst (λ (p : Locks × Told). LocksHold area retries p.0) (sym same) (host_holds area retries (numbered_locks number i k) a.reply c t h at turn)
turn_holds area retries number i fx k q h (None_given same) = subst (λ (p : Locks × Told). LocksHold area retries p.0) (sym same) h

if_ends : (area retries : ℕ) (k : Locks) (t : Bool) → LocksHold area retries k → LocksHold area retries (if t then emptied k else k)
if_ends area retries k true h = record { area_is = h.area_is; retries_are = h.retries_are; fair = h.fair; runs = h.runs; asks = h.asks; given = h.given }
if_ends area retries k false h = h

-- The locks that have not left hold as all do.
pub left_hold : (area retries : ℕ) (fx : Effects) (k : Locks) → LocksHold area retries k → LocksHold area retries (left_locks fx k)
left_hold area retries fx k h = record { area_is = h.area_is; retries_are = h.retries_are; fair = h.fair; runs = h.runs; asks = h.asks; given = h.given }

pub step_holds : (area retries number : ℕ) (i : Input) (fx : Effects) (k : Locks) → LocksHold area retries k → LocksHold area retries (locks_after number i fx k).0
step_holds area retries number i fx k h =
    let s = locks_step number i fx k in
    subst (LocksHold area retries) (sym s.same)
    (if_ends area retries s.turn.0 s.ends
    (turn_holds area retries number i fx (left_locks fx k) s.turn (numbered_hold area retries number i (left_locks fx k) (left_hold area retries fx k h)) s.step))
