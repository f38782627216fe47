-- What a thread does in a turn: the input that it gives, and what its step asks of the machine's children.
use Rattle.sl_cell.specs.Parts.{calls_of}
use Rattle.sl_book.specs.Seats.{IsMine}
use Rattle.sl_cell.specs.Seats.{SeatState}
use Rattle.sl_cell.specs.Told.{Gave, IsUnasked}
use Rattle.sl_cell.specs.declared.part.Part.{Part}
use Rattle.sl_book.specs.Logs.{entries}
use Rattle.sl_cell.specs.Histories.{Signed, trace_of}
use Rattle.sl_live.specs.declared.children.Awaited.{Awaited}
use Rattle.sl_live.specs.declared.steps.Gone.{Gone}
use Rattle.sl_outside.specs.Acts.{Grows, IsTold}
use Rattle.sl_outside.specs.declared.act.Act.TheVariants.{Signalled, Started}
use Rattle.sl_outside.specs.declared.act.Act.{Act}
use Rattle.sl_trace.specs.Traces.{Setting, is_expected}
use Rattle.sl_trace.specs.declared.effects.Effects.{Effects}
use Rattle.sl_trace.specs.declared.effects.Entry.{Entry}
use Rattle.sl_trace.specs.declared.effects.Sent.{Sent}
use Rattle.sl_trace.specs.declared.effects.Signal.TheVariants.{Kill}
use Rattle.sl_trace.specs.declared.effects.Start.{Start}
use Rattle.sl_trace.specs.declared.input.Answer.{Answer}
use Rattle.sl_trace.specs.declared.input.Input.TheVariants.{Answer as Told, Exit, Line, Number, Spawned, Wake}
use Rattle.sl_trace.specs.declared.input.Input.{Input}
use Rattle.sl_trace.specs.declared.effects.Call.{Call}
use Rattle.sl_io.specs.FaultCauses.{Rose}
use Rattle.std.specs.List.{list_any, position, remove}
use Rattle.std.specs.Prelude.{All, Bool, Err, List, None, Ok, Option, Result, Some, false, if◌then◌else◌, is_some, length, map, nat_le, take, true, [], ℕ, ◌&&◌, ◌++◌, ◌+◌, ◌==◌, ◌||◌, ◌∷◌, ◌≡◌, ◌≤◌, ◌⊎◌}
use mathlib.Core.List.{IsPrefix}

-- ---- the machine's children

-- A spawner; the numbers of the children whose start was ordered, and that neither failed to start nor were told as exited; and the starts that
-- came to nothing yet, the first ordered first.
pub record ChildrenState (P : Type 0) : Type 0 where
  pub spawner : P
  pub numbers : List ℕ
  pub awaited : List Awaited

-- ---- what a step asks of them

-- A signal that is sent.
abbrev pub sent_by : Sent → Act
sent_by s = Signalled s.process s.signal

-- A kill.
abbrev pub kill_of : ℕ → Act
kill_of process = Signalled process Kill

-- A spawner was asked for these signals: where it tells what it does, it told just these.
pub record Does {P : Type 0} (told : P → Option (List Act)) (faults : P → ℕ) (running : P → List ℕ) (before after : P)
    (acts : List Act) : Type 0 where
  pub grows : Grows (told before) (told after) acts
  pub later : faults before ≤ faults after
  pub runs : running after ≡ running before

-- Nothing was asked of it.
pub record IsQuiet {P : Type 0} (told : P → Option (List Act)) (faults : P → ℕ) (before after : P) : Type 0 where
  pub same : told after ≡ told before
  pub later : faults before ≤ faults after

-- An ordered start, to whose process no signal was sent yet.
abbrev pub ordered : Start → Awaited
ordered s = record { start = s; signalled = false }

abbrev pub number_of : Start → ℕ
number_of s = s.process

-- A signal is sent to the process of an awaited start.
abbrev pub names : List Sent → ℕ → Bool
names ss process = list_any (λ (s : Sent). s.process == process) ss

abbrev pub marked : List Sent → Awaited → Awaited
marked ss w = record { start = w.start; signalled = w.signalled || names ss w.start.process }

abbrev pub doomed : Awaited → Awaited
doomed w = record { start = w.start; signalled = true }

-- All that a step's effects ask of the children is done or ordered, each once: its signals are sent, and its starts are awaited behind those
-- before them.
pub record Carries {P : Type 0} (told : P → Option (List Act)) (faults : P → ℕ) (running : P → List ℕ) (fx : Effects)
    (before after : ChildrenState P) : Type 0 where
  pub does : Does told faults running before.spawner after.spawner (map sent_by fx.signals)
  pub numbers : after.numbers ≡ before.numbers ++ map number_of fx.starts
  pub awaited : after.awaited ≡ map (marked fx.signals) before.awaited ++ map ordered fx.starts

-- ---- a turn

-- The input was given at this reading, and what its step asks for was done, with these effects; or it answered nothing that was open, and nothing
-- was done.
abbrev pub MakesTurn : {P : Type 0} → (P → Option (List Act)) → (P → ℕ) → (P → List ℕ) → Setting → ℕ → Option Effects → Input
    → ChildrenState P → ChildrenState P → SeatState → SeatState → Type 0
MakesTurn told faults running st now (Some fx) i before after s s' = Gave s s' now i fx × Carries told faults running fx before after
MakesTurn told faults running st now None i before after s s' = IsUnasked st s s' i × (after ≡ before)

-- Nothing was done, though a step may have been made: one by this input.
abbrev pub GivesUp : {C : Type 0} → ℕ → Input → C → C → SeatState → SeatState → Type 0
GivesUp now i before after s s' = (after ≡ before) × ((s' ≡ s) ⊎ ((fx : Effects) × Gave s s' now i fx))

-- ---- starts

-- A start that was awaited was made, and came to a child or to none: to none only where the faults rose. Nothing was started for a process to
-- which a signal was sent before.
pub record Starts {S C : Type 0} (told : S → Option (List Act)) (faults : S → ℕ) (w : Awaited) (before after : S) (child : Option C) : Type 0 where
  pub grows : Grows (told before) (told after) (if w.signalled then [] else Started w.start.process w.start.program (is_some child) ∷ [])
  pub later : faults before ≤ faults after
  pub none : child ≡ None → (w.signalled ≡ true) ⊎ Rose (faults before) (faults after)
  pub some : w.signalled ≡ true → child ≡ None

-- Whether a signal was sent to an awaited process.
abbrev pub is_doomed : ℕ → List Awaited → Bool
is_doomed process ws = list_any (λ (w : Awaited). (w.start.process == process) && w.signalled) ws

-- Without the first start of this process.
abbrev pub told_off : ℕ → List Awaited → List Awaited
told_off process ws = elim (position (λ (w : Awaited). w.start.process == process) ws) [ None ↦ ws | Some place ↦ remove ws place ]

-- These without the first of this number.
abbrev pub without : ℕ → List ℕ → List ℕ
without n ns = elim (position (λ k. k == n) ns) [ None ↦ ns | Some place ↦ remove ns place ]

-- What a start came to was taken in, and whether it runs: one that was signalled meanwhile is killed then and there.
pub record TakesIn {P C : Type 0} (told : P → Option (List Act)) (faults : P → ℕ) (running : P → List ℕ) (process : ℕ) (child : Option C)
    (before after : ChildrenState P) (ok : Bool) : Type 0 where
  pub grows : Grows (told before.spawner) (told after.spawner)
      (if ok && is_doomed process before.awaited then kill_of process ∷ [] else [])
  pub later : faults before.spawner ≤ faults after.spawner
  pub runs : running after.spawner ≡ running before.spawner ++ (if ok then process ∷ [] else [])
  pub numbers : after.numbers ≡ (if ok then before.numbers else without process before.numbers)
  pub awaited : after.awaited ≡ told_off process before.awaited
  pub none : child ≡ None → ok ≡ false
  pub failed : ok ≡ false → (child ≡ None) ⊎ Rose (faults before.spawner) (faults after.spawner)

-- What a start came to was taken in, and whether it runs is told in a turn of this kind.
pub record TellsStart {P C : Type 0} (told : P → Option (List Act)) (faults : P → ℕ) (running : P → List ℕ) (process : ℕ) (child : Option C) (ok : Bool)
    (IsTurn : Input → ChildrenState P → ChildrenState P → SeatState → SeatState → Type 0) (before after : ChildrenState P) (s s' : SeatState) : Type 0 where
  pub taken : ChildrenState P
  pub takes : TakesIn told faults running process child before taken ok
  pub turn : IsTurn (Spawned process ok) taken after s s'

-- ---- exits

-- The child of this process has exited, as the spawner was found to tell, and its exit is given in a turn of this kind.
pub record TellsExit {P : Type 0} (told : P → Option (List Act)) (faults : P → ℕ) (running : P → List ℕ) (process : ℕ)
    (IsTurn : Input → ChildrenState P → ChildrenState P → SeatState → SeatState → Type 0)
    (before after : ChildrenState P) (s s' : SeatState) : Type 0 where
  pub polled : ChildrenState P
  pub gave : IsTold (Some process) (running before.spawner) (running polled.spawner)
  pub gone : polled.numbers ≡ without process before.numbers
  pub awaited : polled.awaited ≡ before.awaited
  pub quiet : IsQuiet told faults before.spawner polled.spawner
  pub turn : IsTurn (Exit process) polled after s s'

-- No exit was found, and nothing was given.
pub record IsIdleTurn {P : Type 0} (told : P → Option (List Act)) (faults : P → ℕ) (running : P → List ℕ)
    (before after : ChildrenState P) (s s' : SeatState) : Type 0 where
  pub gave : IsTold None (running before.spawner) (running after.spawner)
  pub numbers : after.numbers ≡ before.numbers
  pub awaited : after.awaited ≡ before.awaited
  pub quiet : IsQuiet told faults before.spawner after.spawner
  pub seat : s' ≡ s

-- What a look for an exited child did, by which it found, if it found one; for want of memory it left off.
abbrev pub Looks : {P E : Type 0} → (P → Option (List Act)) → (P → ℕ) → (P → List ℕ) → Setting → ℕ → ChildrenState P
    → ChildrenState P → SeatState → SeatState → Result (Option Gone) E → Type 0
Looks told faults running st now before after s s' (Ok (Some gone)) =
    TellsExit told faults running gone.process (MakesTurn told faults running st now gone.effects) before after s s'
Looks told faults running st now before after s s' (Ok None) = IsIdleTurn told faults running before after s s'
Looks told faults running st now before after s s' (Err e) = (process : ℕ) × TellsExit told faults running process (GivesUp now) before after s s'

-- ---- tests

-- A device fires at this reading.
abbrev pub is_lapsed : ℕ → ℕ → ℕ → Bool
is_lapsed last fire now = nat_le (last + fire) now

-- A test at this reading: the device was kept from firing exactly where it held, and each child was killed, and each awaited start marked,
-- exactly where the device had fired.
pub record Guards {P : Type 0} (told : P → Option (List Act)) (faults : P → ℕ) (running : P → List ℕ) (now last last' fire : ℕ)
    (before after : ChildrenState P) (answer : Bool) : Type 0 where
  pub kept : last' ≡ (if answer then now else last)
  pub kills : Does told faults running before.spawner after.spawner (if is_lapsed last' fire now then map kill_of before.numbers else [])
  pub numbers : after.numbers ≡ before.numbers
  pub awaited : after.awaited ≡ (if is_lapsed last' fire now then map doomed before.awaited else before.awaited)

-- ---- what a thread gave

abbrev pub IsWake : Input → Type 0
IsWake i = i ≡ Wake

abbrev pub IsExit : Input → Type 0
IsExit i = (process : ℕ) × (i ≡ Exit process)

abbrev pub IsSpawned : Input → Type 0
IsSpawned i = (process : ℕ) × (ok : Bool) × (i ≡ Spawned process ok)

-- A line for the host, or one for lvmlockd, which takes a number.
abbrev pub IsLine : Input → Type 0
IsLine i = (text : List ℕ) × ((i ≡ Line text) ⊎ (i ≡ Number text))

-- All that a seat gave is of this kind.
pub record Gives (IsInput : Input → Type 0) (s : SeatState) : Type 0 where
  pub made : List Entry
  pub mine : IsMine s made
  pub each : All (λ (e : Entry). IsInput e.input) made

-- The ticker wakes, the child thread tells exits, the starter tells what starts came to, the line thread gives lines: and nothing else.
abbrev pub IsTicker : SeatState → Type 0
IsTicker s = Gives IsWake s

abbrev pub IsChildThread : SeatState → Type 0
IsChildThread s = Gives IsExit s

abbrev pub IsStarterThread : SeatState → Type 0
IsStarterThread s = Gives IsSpawned s

abbrev pub IsLineThread : SeatState → Type 0
IsLineThread s = Gives IsLine s

-- An answer of this call.
abbrev pub IsAnswerOf : Call → Input → Type 0
IsAnswerOf c i = (a : Answer) × (i ≡ Told c.number a)

-- An answer of this call answered nothing that was open when so much of the history stood.
pub record IsPassed (st : Setting) (h : List Signed) (c : Call) : Type 0 where
  pub answer : Answer
  pub past : List Signed
  pub before : IsPrefix past h
  pub unasked : is_expected st (trace_of past) (Told c.number answer) ≡ false

-- The entries answer these calls in their order, each once; of a call that none answers the answer answered nothing that was open.
abbrev pub AreServed : Setting → List Signed → List Call → List Entry → Type 0
AreServed st h [] [] = Unit {0}
AreServed st h [] (e ∷ es) = ⊥
AreServed st h (c ∷ cs) [] = IsPassed st h c × AreServed st h cs []
AreServed st h (c ∷ cs) (e ∷ es) = (IsAnswerOf c e.input × AreServed st h cs es) ⊎ (IsPassed st h c × AreServed st h cs (e ∷ es))

-- A worker answers the calls of its part in the order in which they were made, from the first on, as many as it took; and it gives nothing else.
pub record Works (st : Setting) (part : Part) (s : SeatState) : Type 0 where
  pub made : List Entry
  pub mine : IsMine s made
  pub most : s.taken ≤ length (calls_of part (entries s.front))
  pub serves : AreServed st s.front (take s.taken (calls_of part (entries s.front))) made

-- The device thread gives nothing.
abbrev pub IsDeviceThread : SeatState → Type 0
IsDeviceThread s = s.count ≡ 0
