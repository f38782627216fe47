-- What was done of a history: its signals were sent, and its starts were made.
use Rattle.sl_book.specs.Logs.{entries}
use Rattle.sl_book.specs.Seats.{HasSeen}
use Rattle.sl_cell.specs.Histories.{Signed, trace_of}
use Rattle.sl_cell.specs.Seats.{SeatState}
use Rattle.sl_live.specs.Turns.{ChildrenState, doomed, is_doomed, kill_of, marked, names, number_of, ordered, sent_by, told_off, without}
use Rattle.sl_live.specs.declared.carried.Due.{Due}
use Rattle.sl_live.specs.declared.children.Awaited.{Awaited}
use Rattle.sl_live.specs.declared.steps.Told.{Told}
use Rattle.sl_outside.specs.Acts.{Tells}
use Rattle.sl_outside.specs.declared.act.Act.TheVariants.{Started}
use Rattle.sl_outside.specs.declared.act.Act.{Act}
use Rattle.sl_trace.specs.Traces.{Setting, is_expected}
use Rattle.sl_trace.specs.declared.effects.Effects.{Effects}
use Rattle.sl_trace.specs.declared.effects.Entry.{Entry}
use Rattle.sl_trace.specs.declared.effects.Start.{Start}
use Rattle.sl_trace.specs.declared.input.Input.TheVariants.{Answer as Answered, Exit, Line, Number, Spawned, Wake}
use Rattle.sl_trace.specs.declared.input.Input.{Input}
use Rattle.std.specs.Prelude.{Bool, Err, List, None, Ok, Option, Result, Some, drop, false, if◌then◌else◌, is_some, length, map, option_map, slice_get, true, [], ℕ, ◌&&◌, ◌++◌, ◌+◌, ◌<◌, ◌==◌, ◌^◌, ◌||◌, ◌∷◌, ◌≡◌, ◌≤◌, ◌⊎◌}
use mathlib.Core.List.{IsPrefix}

-- ---- the children that a history makes

-- The numbers of the children whose start was ordered and that are not gone, and the starts that came to nothing yet, the first ordered first.
pub record Kept : Type 0 where
  pub numbers : List ℕ
  pub awaited : List Awaited

abbrev pub no_children : Kept
no_children = record { numbers = []; awaited = [] }

-- Whether an input tells nothing of a child.
abbrev pub is_childless : Input → Bool
is_childless (Line text) = true
is_childless (Number text) = true
is_childless (Answered call answer) = true
is_childless Wake = true
is_childless (Exit process) = false
is_childless (Spawned process ok) = false

-- With what an input tells of them: a child has exited, or a start has come to a child or to none.
abbrev pub with_told : Kept → Input → Kept
with_told k (Line text) = k
with_told k (Number text) = k
with_told k (Answered call answer) = k
with_told k Wake = k
with_told k (Exit process) = record { numbers = without process k.numbers; awaited = k.awaited }
with_told k (Spawned process ok) = record { numbers = if ok then k.numbers else without process k.numbers; awaited = told_off process k.awaited }

-- The kill of a child that has come although a signal was sent to its process before.
abbrev pub late_kill : Kept → Input → List Act
late_kill k (Line text) = []
late_kill k (Number text) = []
late_kill k (Answered call answer) = []
late_kill k Wake = []
late_kill k (Exit process) = []
late_kill k (Spawned process ok) = if ok && is_doomed process k.awaited then kill_of process ∷ [] else []

-- With what a step asks for: its signals mark awaited starts, and its starts are awaited behind them.
abbrev pub with_effects : Effects → Kept → Kept
with_effects fx k = record { numbers = k.numbers ++ map number_of fx.starts; awaited = map (marked fx.signals) k.awaited ++ map ordered fx.starts }

-- ---- moments

-- A moment is an entry of the history; or, where it is none, a kill of all children, by which awaited starts are marked: the watchdog device had
-- fired, or the run had failed.
abbrev pub after_moment : Kept → Option Entry → Kept
after_moment k (Some e) = with_effects e.effects (with_told k e.input)
after_moment k None = record { numbers = k.numbers; awaited = map doomed k.awaited }

-- What a spawner is asked for at a moment.
abbrev pub acts_at : Kept → Option Entry → List Act
acts_at k (Some e) = late_kill k e.input ++ map sent_by e.effects.signals
acts_at k None = map kill_of k.numbers

-- What there is after moments, and all that was asked for at them.
abbrev pub after_all : Kept → List (Option Entry) → Kept
after_all k [] = k
after_all k (m ∷ ms) = after_all (after_moment k m) ms

abbrev pub acts_along : Kept → List (Option Entry) → List Act
acts_along k [] = []
acts_along k (m ∷ ms) = acts_at k m ++ acts_along (after_moment k m) ms

-- The entries among moments.
abbrev pub entries_in : List (Option Entry) → List Entry
entries_in [] = []
entries_in (Some e ∷ ms) = e ∷ entries_in ms
entries_in (None ∷ ms) = entries_in ms

abbrev pub as_moment : Entry → Option Entry
as_moment e = Some e

-- ---- signals

-- A spawner was asked for just the signals of a history, in the order of its entries: beside a kill of each child that came too late, and kills of
-- all children, of which there was none where it is said that they were not killed.
pub record HasSignalled (h : List Entry) (killed : Bool) (told : Option (List Act)) : Type 0 where
  pub moments : List (Option Entry)
  pub entries_are : entries_in moments ≡ h
  pub alone : killed ≡ false → moments ≡ map as_moment h
  pub tells : Tells told (acts_along no_children moments)

-- ---- starts

-- The starts that a history orders.
abbrev pub starts_of : List Entry → List Start
starts_of [] = []
starts_of (e ∷ es) = e.effects.starts ++ starts_of es

abbrev pub start_of : Awaited → Start
start_of w = w.start

-- Whether the history sends a signal to this process.
abbrev pub is_named : ℕ → List Entry → Bool
is_named process [] = false
is_named process (e ∷ es) = names e.effects.signals process || is_named process es

-- The start of this process need not be made: a signal was sent to it before, or all children were killed.
abbrev pub IsLet : List Entry → Bool → ℕ → Type 0
IsLet h killed process = (is_named process h ≡ true) ⊎ (killed ≡ true)

-- Each marked start need not be made.
abbrev pub AreMarked : List Entry → Bool → List Awaited → Type 0
AreMarked h killed [] = Unit {0}
AreMarked h killed (w ∷ ws) = (w.signalled ≡ true → IsLet h killed w.start.process) × AreMarked h killed ws

-- What the outcome of a start told answered nothing that was open when so much of the history stood.
pub record IsUntold (st : Setting) (h : List Signed) (process : ℕ) (ok : Bool) : Type 0 where
  pub past : List Signed
  pub before : IsPrefix past h
  pub unasked : is_expected st (trace_of past) (Spawned process ok) ≡ false

-- What a spawner was asked for by a start, and whether it came to a child: the program at its path was to be started, under its number; or it need not
-- be made, and nothing was.
abbrev pub IsActed : List Signed → Bool → Start → Bool → List Act → Type 0
IsActed h killed s came acts =
    (acts ≡ Started s.process s.program came ∷ []) ⊎ ((acts ≡ []) × (came ≡ false) × IsLet (entries h) killed s.process)

-- A start was dealt with, and what follows is so of what was told of it, and of what was asked for behind it.
pub record IsStartedFirst (h : List Signed) (killed : Bool) (s : Start) (acts : List Act) (Follows : Bool → List Act → Type 0) : Type 0 where
  pub came : Bool
  pub ok : Bool
  pub mine : List Act
  pub rest : List Act
  pub acts_are : acts ≡ mine ++ rest
  pub acted : IsActed h killed s came mine
  pub told : ok ≡ true → came ≡ true
  pub follows : Follows ok rest

-- These starts were made in their order, each once, and nothing else was asked for. The entries tell what they came to in the same order, of a child
-- only where there came one; what no entry tells answered nothing that was open.
abbrev pub AreStarted : Setting → List Signed → Bool → List Start → List Entry → List Act → Type 0
AreStarted st h killed [] [] acts = acts ≡ []
AreStarted st h killed [] (e ∷ es) acts = ⊥
AreStarted st h killed (s ∷ ss) [] acts = IsStartedFirst h killed s acts (λ ok rest. IsUntold st h s.process ok × AreStarted st h killed ss [] rest)
AreStarted st h killed (s ∷ ss) (e ∷ es) acts = IsStartedFirst h killed s acts (λ ok rest.
    ((e.input ≡ Spawned s.process ok) × AreStarted st h killed ss es rest) ⊎ (IsUntold st h s.process ok × AreStarted st h killed ss (e ∷ es) rest))

-- ---- what lies under the lock of a machine's children

-- The children; the front of the history whose effects were carried out; how many of its starts were dealt with; whether all children were killed at
-- some time; and whether all this is so.
pub record CarriedState (P : Type 0) : Type 0 where
  pub children : ChildrenState P
  pub front : List Signed
  pub taken : ℕ
  pub killed : Bool
  pub whole : Bool

-- The starts that are awaited are those behind the ones that were dealt with, and the marked ones need not be made.
pub record IsQueue (h : List Entry) (taken : ℕ) (killed : Bool) (ws : List Awaited) : Type 0 where
  pub most : taken ≤ length (starts_of h)
  pub left : map start_of ws ≡ drop taken (starts_of h)
  pub marks : AreMarked h killed ws

abbrev pub kept_in : {P : Type 0} → ChildrenState P → Kept
kept_in c = record { numbers = c.numbers; awaited = c.awaited }

-- The children are those that the history makes, with kills of all among its entries, and the spawner was asked for just what is due along it.
pub record AreCarried {P : Type 0} (told : P → Option (List Act)) (h : List Entry) (taken : ℕ) (killed : Bool) (c : ChildrenState P) : Type 0 where
  pub signalled : HasSignalled h killed (told c.spawner)
  pub kept : kept_in c ≡ after_all no_children signalled.moments
  pub queue : IsQueue h taken killed c.awaited

abbrev pub IsCarried : {P : Type 0} → (P → Option (List Act)) → CarriedState P → Type 0
IsCarried told c = c.whole ≡ true → AreCarried told (entries c.front) c.taken c.killed c.children

-- ---- what a call leaves of it

-- Whether one entry more is seen now.
abbrev pub is_next : {X : Type 0} → List X → List X → Bool
is_next before now = length now == length before + 1

-- Whether an awaited start, if there is one, is of this process.
abbrev pub is_for : ℕ → Option Awaited → Bool
is_for process w = elim w [ None ↦ false | Some w ↦ w.start.process == process ]

-- Whether the start of this process is the one that is to be told next, by a seat that took just one more than were dealt with.
abbrev pub is_due : {P : Type 0} → ℕ → SeatState → CarriedState P → Bool
is_due process s c = is_for process (slice_get c.children.awaited 0) && (s.taken == c.taken + 1)

-- An entry was given, so much of the history is seen now, and so many of its starts were dealt with. All this is still so just where it was, where the
-- entry is the one behind the front, and where it fits.
pub record Follows {P : Type 0} (fits : Bool) (taken : ℕ) (seen : List Signed) (c c' : CarriedState P) : Type 0 where
  pub front : c'.front ≡ seen
  pub taken_is : c'.taken ≡ taken
  pub killed : c'.killed ≡ c.killed
  pub whole : c'.whole ≡ (is_next c.front seen && (c.whole && fits))

-- All but the children is as it was.
pub record Rests {P : Type 0} (c c' : CarriedState P) : Type 0 where
  pub front : c'.front ≡ c.front
  pub taken : c'.taken ≡ c.taken
  pub killed : c'.killed ≡ c.killed
  pub whole : c'.whole ≡ c.whole

-- .. but that it is not whole any more.
pub record Falls {P : Type 0} (c c' : CarriedState P) : Type 0 where
  pub front : c'.front ≡ c.front
  pub taken : c'.taken ≡ c.taken
  pub killed : c'.killed ≡ c.killed
  pub whole : c'.whole ≡ false

-- What a turn leaves that gave an entry which fits by what came of it, or gave none; or for which there was no memory.
abbrev pub FollowsTurn : {P X E : Type 0} → (X → Bool) → List Signed → CarriedState P → CarriedState P → Result (Option X) E → Type 0
FollowsTurn fits seen c c' (Ok (Some x)) = Follows (fits x) c.taken seen c c'
FollowsTurn fits seen c c' (Ok None) = Rests c c'
FollowsTurn fits seen c c' (Err e) = Falls c c'

-- .. that told what a start came to.
abbrev pub FollowsStart : {P E : Type 0} → ℕ → SeatState → List Signed → CarriedState P → CarriedState P → Result Told E → Type 0
FollowsStart process s seen c c' (Ok t) = Follows (is_due process s c && is_some t.effects) s.taken seen c c'
FollowsStart process s seen c c' (Err e) = Falls c c'

-- A seat can't take the next start: this is not whole, the seat took others, it took all that can be counted, or it has seen what did not come here.
abbrev pub IsApart : {P : Type 0} → CarriedState P → SeatState → Type 0
IsApart c s = (c.whole ≡ false) ⊎ ((s.taken == c.taken) ≡ false) ⊎ (2 ^ 64 ≤ s.taken + 1) ⊎ (length c.front < length s.front)

-- The start that is to be made next, if there is one.
abbrev pub due_in : {P : Type 0} → CarriedState P → Option Due
due_in c = option_map (λ (w : Awaited). record { awaited = w; killed = c.killed }) (slice_get c.children.awaited 0)

-- The next start was taken, and whether it is marked: the one behind those that were dealt with, in what the seat has seen now.
pub record TookStart (s s' : SeatState) (w : Awaited) (killed : Bool) : Type 0 where
  pub seen : HasSeen s s'
  pub there : slice_get (starts_of (entries s'.front)) s.taken ≡ Some w.start
  pub taken : s'.taken ≡ s.taken + 1
  pub let_ : w.signalled ≡ true → IsLet (entries s'.front) killed w.start.process

-- .. if there is one.
abbrev pub IsTakenStart : SeatState → SeatState → Option Due → Type 0
IsTakenStart s s' (Some d) = TookStart s s' d.awaited d.killed
IsTakenStart s s' None = s' ≡ s
