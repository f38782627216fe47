-- What the signals keep to, said without how each is chosen.
use Rattle.sl_alone.specs.Calls.{Began, EscalateCall, Exited, Stepped, begun_at, has_exited, holders_begun, holders_left}
use Rattle.sl_alone.specs.DueSignals.{signal_due, signals_given, with_due}
use Rattle.sl_trace.specs.declared.effects.Sent.{Sent}
use Rattle.sl_trace.specs.declared.effects.Signal.TheVariants.{Kill, Term}
use Rattle.std.specs.Prelude.{Contains, List, None, Some, false, [], ℕ, ◌++◌, ◌+◌, ◌∷◌, ◌≡◌, ◌≤◌, ◌↔◌}

-- Term to this process.
abbrev pub term_to : ℕ → Sent
term_to process = record { process = process; signal = Term }

-- Kill to this process.
abbrev pub kill_to : ℕ → Sent
kill_to process = record { process = process; signal = Kill }

-- Each step gives the signal that is due then, or none, and no other call gives one.
pub record StepsGive : Type 0 where
  pub at_first : (grace : ℕ) → signals_given grace [] ≡ []
  pub beginning : (grace : ℕ) (calls : List EscalateCall) (now : ℕ) (holders : List ℕ) → signals_given grace (Began now holders ∷ calls) ≡ signals_given grace calls
  pub step : (grace : ℕ) (calls : List EscalateCall) (now : ℕ)
      → signals_given grace (Stepped now ∷ calls) ≡ with_due (signal_due grace calls now) (signals_given grace calls)
  pub exit : (grace : ℕ) (calls : List EscalateCall) (process : ℕ) → signals_given grace (Exited process ∷ calls) ≡ signals_given grace calls

-- No signal stands twice among these.
abbrev pub NoneTwice : List Sent → Type 0
NoneTwice [] = Unit {0}
NoneTwice (s ∷ given) = (Contains given s → ⊥) × NoneTwice given

-- No process is ever given the same signal twice.
abbrev pub EachOnce : Type 0
EachOnce = (grace : ℕ) (calls : List EscalateCall) → NoneTwice (signals_given grace calls)

-- Before the beginning no signal is due.
abbrev pub NoneBefore : Type 0
NoneBefore = (grace : ℕ) (calls : List EscalateCall) (now : ℕ) → begun_at calls ≡ None → signal_due grace calls now ≡ None

-- The reading is at least the grace above that of the beginning.
abbrev pub HasWaited : ℕ → List EscalateCall → ℕ → Type 0
HasWaited grace calls now = (began : ℕ) × (begun_at calls ≡ Some began) × (began + grace ≤ now)

-- No kill is due before the grace is over, nor to a process that was not given term.
abbrev pub KillsWait : Type 0
KillsWait = (grace : ℕ) (calls : List EscalateCall) (now process : ℕ) → signal_due grace calls now ≡ Some (kill_to process)
    → HasWaited grace calls now × Contains (signals_given grace calls) (term_to process)

-- No signal is due to a process that did not hold at the beginning, nor to one that has exited since.
abbrev pub OnlyHolders : Type 0
OnlyHolders = (grace : ℕ) (calls : List EscalateCall) (now : ℕ) (s : Sent) → signal_due grace calls now ≡ Some s
    → Contains (holders_begun calls) s.process × (has_exited s.process calls ≡ false)

-- Where a signal is due, each holder that is left and was given before that process was given that signal already.
abbrev pub InOrder : Type 0
InOrder = (grace : ℕ) (calls : List EscalateCall) (now : ℕ) (s : Sent) → signal_due grace calls now ≡ Some s
    → (before : List ℕ) × (after : List ℕ) × (holders_left calls ≡ before ++ s.process ∷ after)
    × ((process : ℕ) → Contains before process → Contains (signals_given grace calls) (record s { process = process }))

-- Where no signal is due, each holder that is left was given term; and where the grace is over, kill too.
abbrev pub AllTold : Type 0
AllTold = (grace : ℕ) (calls : List EscalateCall) (now process : ℕ) → signal_due grace calls now ≡ None → Contains (holders_left calls) process
    → Contains (signals_given grace calls) (term_to process) × (HasWaited grace calls now → Contains (signals_given grace calls) (kill_to process))

-- Those are left that held at the beginning and have not exited since.
abbrev pub LeftAreThere : Type 0
LeftAreThere = (calls : List EscalateCall) (process : ℕ)
    → Contains (holders_left calls) process ↔ (Contains (holders_begun calls) process × (has_exited process calls ≡ false))
