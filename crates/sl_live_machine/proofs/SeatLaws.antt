-- A thread's seat with one turn more.
use Rattle.sl_cell.proofs.SeatLaws.{mine_on}
use Rattle.sl_book.proofs.SeatLaws.{mine_none, mine_seen}
use Rattle.sl_cell.specs.Seats.{SeatState}
use Rattle.sl_cell.specs.Told.{Gave, IsTested, IsUnasked}
use Rattle.sl_book.specs.Seats.{HasSeen}
use Rattle.sl_live.specs.Turns.{ChildrenState, Gives, Guards, IsChildThread, IsDeviceThread, IsExit, IsLine, IsLineThread, IsSpawned, IsStarterThread, IsTicker, IsWake, Looks, MakesTurn, TellsStart}
use Rattle.sl_live.specs.declared.steps.Gone.{Gone}
use Rattle.sl_live.specs.ServedCalls.{MakesCall}
use Rattle.sl_live.specs.declared.disks.Disk.{Disk}
use Rattle.sl_live_machine.specs.ThreadTurns.{LooksTurn, OnChildren, outcome}
use Rattle.sl_live_machine.specs.declared.children.Found.{Found}
use Rattle.sl_live_machine.specs.declared.turn.Turn.{Turn}
use Rattle.sl_outside.specs.declared.act.Act.{Act}
use Rattle.sl_trace.specs.Traces.{Setting}
use Rattle.sl_trace.specs.declared.effects.Call.{Call}
use Rattle.sl_trace.specs.declared.effects.Effects.{Effects}
use Rattle.sl_trace.specs.declared.effects.Entry.{Entry}
use Rattle.sl_trace.specs.declared.input.Answer.{Answer}
use Rattle.sl_trace.specs.declared.input.Input.TheVariants.{Exit, Spawned, Wake}
use Rattle.sl_trace.specs.declared.input.Input.{Input}
use Rattle.std.proofs.Common.{ap, arith, inl, inr, refl, subst, sym, ◌∙◌}
use Rattle.std.proofs.lemmas.List.Elements.{All-append, All-cons}
use Rattle.std.specs.declared.alloc.AllocError.{AllocError}
use Rattle.std.specs.Prelude.{Bool, Err, IfOk, List, None, Ok, OnErr, OnOk, Option, Result, Some, length, [], ℕ, ◌++◌, ◌==◌, ◌∷◌, ◌≡◌, ◌⊎◌}

-- ---- a turn that gives an input

-- a seat has given this input, or it answered nothing that was open
abbrev pub GaveTurn : Setting → Input → SeatState → SeatState → Type 0
GaveTurn st i s s' = ((now : ℕ) × (fx : Effects) × Gave s s' now i fx) ⊎ IsUnasked st s s' i

-- a turn on children is one on the seat
pub made_gave : {P : Type 0} (told : P → Option (List Act)) (faults : P → ℕ) (running : P → List ℕ) (st : Setting) (now : ℕ) (fx : Option Effects) (i : Input)
    (before after : ChildrenState P) (s s' : SeatState) → MakesTurn told faults running st now fx i before after s s' → GaveTurn st i s s'
made_gave told faults running st now (Some fx) i before after s s' so = inl (now, fx, so.0)
made_gave told faults running st now None i before after s s' so = inr so.0

pub turn_gave : {P : Type 0} (told : P → Option (List Act)) (faults : P → ℕ) (running : P → List ℕ) (st : Setting) (now : ℕ) (fx : Option Effects) (i : Input)
    (s s' : SeatState) → OnChildren {P = P} (λ before after. MakesTurn told faults running st now fx i before after s s') → GaveTurn st i s s'
turn_gave told faults running st now fx i s s' on = made_gave told faults running st now fx i on.0 on.1 s s' on.2

pub on_ok : {A E M : Type 0} (r : Result A E) → M → OnOk r M
on_ok (Ok a) m = m
on_ok (Err e) m = tt

pub on_err : {A E M : Type 0} (r : Result A E) → M → OnErr r M
on_err (Ok a) m = tt
on_err (Err e) m = m

-- ---- threads that only give

gives_seen : (IsInput : Input → Type 0) (s s' : SeatState) → HasSeen s s' → Gives IsInput s → Gives IsInput s'
gives_seen IsInput s s' seen so = record { made = so.made; mine = mine_seen s s' so.made seen so.mine; each = so.each }

gives_more : (IsInput : Input → Type 0) (i : Input) (s s' : SeatState) (now : ℕ) (fx : Effects) → IsInput i → Gave s s' now i fx → Gives IsInput s → Gives IsInput s'
gives_more IsInput i s s' now fx is gave so =
    let e : Entry = gave.entry.entry in record {
      made = so.made ++ e ∷ [];
      mine = mine_on s s' now i fx so.made gave so.mine;
      each = All-append (λ (x : Entry). IsInput x.input) so.made (e ∷ []) so.each
          (All-cons (λ (x : Entry). IsInput x.input) e [] (subst IsInput (sym gave.is.same) is) (λ k d below. absurd (omega arith)));
    }

gives_on : (IsInput : Input → Type 0) (st : Setting) (i : Input) (s s' : SeatState) → IsInput i → GaveTurn st i s s' → Gives IsInput s → Gives IsInput s'
gives_on IsInput st i s s' is (inl gave) so = gives_more IsInput i s s' gave.0 gave.1 is gave.2 so
gives_on IsInput st i s s' is (inr passed) so = gives_seen IsInput s s' passed.seen so

-- a starter that takes a start has told nothing more
pub starter_seen : (s s' : SeatState) → HasSeen s s' → IsStarterThread s → IsStarterThread s'
starter_seen s s' seen so = gives_seen IsSpawned s s' seen so

-- nothing yet
pub gave_none : (IsInput : Input → Type 0) (s : SeatState) → s.count ≡ 0 → Gives IsInput s
gave_none IsInput s none = record { made = []; mine = mine_none s none; each = λ k d below. absurd (omega arith) }

pub ticker_none : (s : SeatState) → s.count ≡ 0 → IsTicker s
ticker_none s none = gave_none IsWake s none

pub exits_none : (s : SeatState) → s.count ≡ 0 → IsChildThread s
exits_none s none = gave_none IsExit s none

pub starts_none : (s : SeatState) → s.count ≡ 0 → IsStarterThread s
starts_none s none = gave_none IsSpawned s none

pub lines_none : (s : SeatState) → s.count ≡ 0 → IsLineThread s
lines_none s none = gave_none IsLine s none

pub wakes_on : (st : Setting) (s s' : SeatState) → GaveTurn st Wake s s' → IsTicker s → IsTicker s'
wakes_on st s s' gave so = gives_on IsWake st Wake s s' refl gave so

pub lines_on : (st : Setting) (i : Input) (s s' : SeatState) → IsLine i → GaveTurn st i s s' → IsLineThread s → IsLineThread s'
lines_on st i s s' is gave so = gives_on IsLine st i s s' is gave so

-- whether a look found an exited child or not
pub looks_on : {P : Type 0} (gone : Option Gone) (told : P → Option (List Act)) (faults : P → ℕ) (running : P → List ℕ) (st : Setting) (now : ℕ) (before after : ChildrenState P)
    (s s' : SeatState) → Looks {P = P} {E = AllocError} told faults running st now before after s s' (Ok gone) → IsChildThread s → IsChildThread s'
looks_on (Some gone) told faults running st now before after s s' looks so =
    gives_on IsExit st (Exit gone.process) s s' (gone.process, refl) (made_gave told faults running st now gone.effects (Exit gone.process) looks.polled after s s' looks.turn) so
looks_on None told faults running st now before after s s' idle so = subst IsChildThread (sym idle.seat) so

-- what a look came to is what its step came to
pub looks_so : {P : Type 0} (told : P → Option (List Act)) (faults : P → ℕ) (running : P → List ℕ) (st : Setting) (now : ℕ) (before after : ChildrenState P) (s s' : SeatState)
    (gone : Option Gone) (came : Found × Option Turn) (idle : Bool) → idle ≡ (length after.numbers == 0) → came ≡ outcome gone idle
    → Looks {P = P} {E = AllocError} told faults running st now before after s s' (Ok gone)
    → OnChildren {P = P} (λ b a. LooksTurn {P = P} {E = AllocError} told faults running st now b a s s' (Ok came))
looks_so told faults running st now before after s s' gone came idle none is looks = (before, after, (gone, is ∙ ap (λ i. outcome gone i) none, looks))

-- what a start came to is told
pub starts_on : {P C : Type 0} (told : P → Option (List Act)) (faults : P → ℕ) (running : P → List ℕ) (st : Setting) (now process : ℕ) (child : Option C) (ok : Bool)
    (fx : Option Effects) (before after : ChildrenState P) (s s' : SeatState)
    → TellsStart told faults running process child ok (MakesTurn told faults running st now fx) before after s s' → IsStarterThread s → IsStarterThread s'
starts_on told faults running st now process child ok fx before after s s' tells so =
    gives_on IsSpawned st (Spawned process ok) s s' (process, ok, refl) (made_gave told faults running st now fx (Spawned process ok) tells.taken after s s' tells.turn) so

-- ---- the device thread

pub tests_so : {P E : Type 0} (told : P → Option (List Act)) (faults : P → ℕ) (running : P → List ℕ) (st : Setting) (now last last' fire : ℕ) (before after : ChildrenState P)
    (s s' : SeatState) (r : Result Unit E)
    → OnOk r ((answer : Bool) × IsTested st s s' now answer × Guards told faults running now last last' fire before after answer)
    → OnOk r ((answer : Bool) × IsTested st s s' now answer × OnChildren {P = P} (λ b a. Guards told faults running now last last' fire b a answer))
tests_so told faults running st now last last' fire before after s s' (Ok u) so = (so.0, so.1, (before, after, so.2))
tests_so told faults running st now last last' fire before after s s' (Err e) so = tt

pub tests_on : (st : Setting) (now : ℕ) (answer : Bool) (s s' : SeatState) → IsTested st s s' now answer → IsDeviceThread s → IsDeviceThread s'
tests_on st now answer s s' tested none = tested.seen.count ∙ none

-- ---- a worker

-- a call that was made is answered
pub answers_so : {A E : Type 0} (content : A → Option (List ℕ)) (faults : A → ℕ) (sector : ℕ) (c : Call) (disks later : List (Disk A)) (a : Answer)
    (Turns : Turn → Answer → Type 0) (r : Result Turn E) → MakesCall content faults sector c disks later a → IfOk r (λ t. Turns t a)
    → IfOk r (λ t. (x : Answer) × MakesCall content faults sector c disks later x × Turns t x)
answers_so content faults sector c disks later a Turns (Ok t) makes so = (a, makes, so)
answers_so content faults sector c disks later a Turns (Err e) makes so = tt
