-- What a thread does in a turn, on the children of the machine, and a worker on its disks.
use Rattle.sl_book.specs.Logs.{entries}
use Rattle.sl_book.specs.Seats.{IsMine}
use Rattle.sl_cell.specs.Histories.{Signed, trace_of}
use Rattle.sl_cell.specs.Parts.{calls_of}
use Rattle.sl_cell.specs.Seats.{SeatState}
use Rattle.sl_cell.specs.declared.part.Part.{Part}
use Rattle.sl_live.specs.ServedCalls.{MakesCall}
use Rattle.sl_live.specs.Turns.{ChildrenState, Looks}
use Rattle.sl_live.specs.declared.disks.Disk.{Disk}
use Rattle.sl_live.specs.declared.steps.Gone.{Gone}
use Rattle.sl_live_machine.specs.declared.children.Found.TheVariants as found
use Rattle.sl_live_machine.specs.declared.children.Found.{Found}
use Rattle.sl_live_machine.specs.declared.turn.Happened.TheVariants.{Answered, Exited, Line as GaveLine, Started, Woke}
use Rattle.sl_live_machine.specs.declared.turn.Happened.{Happened}
use Rattle.sl_live_machine.specs.declared.turn.Turn.{Turn}
use Rattle.sl_outside.specs.declared.act.Act.{Act}
use Rattle.sl_trace.specs.Traces.{Setting, is_expected}
use Rattle.sl_trace.specs.declared.effects.Call.{Call}
use Rattle.sl_trace.specs.declared.effects.Entry.{Entry}
use Rattle.sl_trace.specs.declared.input.Answer.{Answer as AnswerIs}
use Rattle.sl_trace.specs.declared.input.Input.TheVariants.{Answer, Exit, Line, Number, Spawned, Wake}
use Rattle.sl_trace.specs.declared.input.Input.{Input}
use Rattle.std.specs.Prelude.{Bool, Err, List, None, Ok, Option, Result, Some, false, if◌then◌else◌, length, take, [], ℕ, ◌==◌, ◌∷◌, ◌≡◌, ◌≤◌, ◌⊎◌}
use mathlib.Core.List.{IsPrefix}

-- What stood under the lock of a machine's children before and after is so.
abbrev pub OnChildren : {P : Type 0} → (ChildrenState P → ChildrenState P → Type 0) → Type 0
OnChildren {P = P} IsStep = (before : ChildrenState P) × (after : ChildrenState P) × IsStep before after

-- What an input tells.
abbrev pub happened_of : Input → Happened
happened_of Wake = Woke
happened_of (Line text) = GaveLine
happened_of (Number text) = GaveLine
happened_of (Answer call answer) = Answered
happened_of (Spawned process ok) = Started process ok
happened_of (Exit process) = Exited process

-- The turn that told an exit.
abbrev pub exit_turn : Gone → Turn
exit_turn gone = record { happened = Exited gone.process; effects = gone.effects }

-- What a look came to that told an exit or found none, and that left no child or did: what was found, and the turn that told it.
abbrev pub outcome : Option Gone → Bool → Found × Option Turn
outcome (Some gone) idle = (found.Exited, Some (exit_turn gone))
outcome None idle = (if idle then found.NoneRuns else found.AllRun, None)

-- What a look for an exited child did, by what it came to.
abbrev pub LooksTurn : {P E : Type 0} → (P → Option (List Act)) → (P → ℕ) → (P → List ℕ) → Setting → ℕ → ChildrenState P
    → ChildrenState P → SeatState → SeatState → Result (Found × Option Turn) E → Type 0
LooksTurn {P = P} {E = E} told faults running st now before after s s' (Ok came) =
    (gone : Option Gone) × (came ≡ outcome gone (length after.numbers == 0)) × Looks {P = P} {E = E} told faults running st now before after s s' (Ok gone)
LooksTurn {P = P} {E = E} told faults running st now before after s s' (Err e) = Looks {P = P} {E = E} told faults running st now before after s s' (Err e)

-- ---- a worker's calls on its disks

-- This answer of the call answered nothing that was open when so much of the history stood.
pub record IsPassedBy (st : Setting) (h : List Signed) (c : Call) (a : AnswerIs) : Type 0 where
  pub past : List Signed
  pub before : IsPrefix past h
  pub unasked : is_expected st (trace_of past) (Answer c.number a) ≡ false

-- A call was made on these disks, and what follows is so of its answer and of the disks that it left.
pub record IsMadeFirst {A : Type 0} (content : A → Option (List ℕ)) (faults : A → ℕ) (sector : ℕ) (c : Call) (disks : List (Disk A))
    (Follows : AnswerIs → List (Disk A) → Type 0) : Type 0 where
  pub answer : AnswerIs
  pub left : List (Disk A)
  pub made : MakesCall content faults sector c disks left answer
  pub follows : Follows answer left

-- These calls were made in their order, and by them alone the disks went from these to those. The entries give their answers in the same order; an
-- answer that none gives answered nothing that was open.
abbrev pub AreMade : {A : Type 0} → (A → Option (List ℕ)) → (A → ℕ) → ℕ → Setting → List Signed → List Call → List Entry → List (Disk A) → List (Disk A) → Type 0
AreMade content faults sector st h [] [] disks later = later ≡ disks
AreMade content faults sector st h [] (e ∷ es) disks later = ⊥
AreMade content faults sector st h (c ∷ cs) [] disks later = IsMadeFirst content faults sector c disks (λ a left.
    IsPassedBy st h c a × AreMade content faults sector st h cs [] left later)
AreMade content faults sector st h (c ∷ cs) (e ∷ es) disks later = IsMadeFirst content faults sector c disks (λ a left.
    ((e.input ≡ Answer c.number a) × AreMade content faults sector st h cs es left later)
    ⊎ (IsPassedBy st h c a × AreMade content faults sector st h cs (e ∷ es) left later))

-- A worker made the calls of its part on its disks in the order in which they were made, from the first on, as many as it took, and gave just the
-- answers that it got.
pub record WorksOn {A : Type 0} (content : A → Option (List ℕ)) (faults : A → ℕ) (sector : ℕ) (st : Setting) (part : Part) (disks later : List (Disk A))
    (s : SeatState) : Type 0 where
  pub given : List Entry
  pub mine : IsMine s given
  pub most : s.taken ≤ length (calls_of part (entries s.front))
  pub made : AreMade content faults sector st s.front (take s.taken (calls_of part (entries s.front))) given disks later
