-- Which signal is due.
use Rattle.sl_alone.specs.Calls.{Began, EscalateCall, Exited, Stepped, begun_at, holders_left}
use Rattle.sl_alone.specs.declared.holder.Holder.{Holder}
use Rattle.sl_trace.specs.declared.effects.Sent.{Sent}
use Rattle.sl_trace.specs.declared.effects.Signal.TheVariants.{Kill, Term}
use Rattle.sl_trace.specs.declared.effects.Signal.{Signal}
use Rattle.std.specs.Option.{option_map}
use Rattle.std.specs.Prelude.{Bool, List, None, Option, Some, false, find, if◌then◌else◌, is_none, map, nat_le, true, [], ℕ, ◌+◌, ◌==◌, ◌∷◌}

-- The last signal that a process was given, of signals newest first.
abbrev pub last_given : ℕ → List Sent → Option Signal
last_given process [] = None
last_given process (s ∷ given) = if s.process == process then Some s.signal else last_given process given

-- A holder after these signals.
abbrev pub holder_in : List Sent → ℕ → Holder
holder_in given process = record { process = process; last = last_given process given }

-- Whether it was given no signal.
abbrev pub is_untold : Holder → Bool
is_untold h = is_none h.last

-- Whether it was given term, and kill not yet.
abbrev pub is_told_term : Holder → Bool
is_told_term h = elim h.last [ None ↦ false | Some s ↦ elim s [ Term ↦ true | Kill ↦ false ] ]

-- A holder after one more signal to some process.
abbrev pub noted : Sent → Holder → Holder
noted s h = if s.process == h.process then record { process = h.process; last = Some s.signal } else h

-- This signal to a holder.
abbrev pub signal_to : Signal → Holder → Sent
signal_to signal h = record { process = h.process; signal = signal }

-- Term to the first that was given no signal.
abbrev pub term_among : List Holder → Option Sent
term_among hs = option_map (signal_to Term) (find is_untold hs)

-- Kill to the first that was given term alone.
abbrev pub kill_among : List Holder → Option Sent
kill_among hs = option_map (signal_to Kill) (find is_told_term hs)

-- First each is given term; once the grace is over, each is given kill.
abbrev pub due_among : Bool → List Holder → Option Sent
due_among is_over hs = elim (term_among hs) [ Some s ↦ Some s | None ↦ if is_over then kill_among hs else None ]

-- Whether the reading is at least the grace above that of the beginning.
abbrev pub is_grace_over : ℕ → Option ℕ → ℕ → Bool
is_grace_over grace None now = false
is_grace_over grace (Some began) now = nat_le (began + grace) now

-- The signals with one more, if one is due.
abbrev pub with_due : Option Sent → List Sent → List Sent
with_due None given = given
with_due (Some s) given = s ∷ given

-- The signals given so far, newest first: each step gives the one that is due then.
abbrev pub signals_given : ℕ → List EscalateCall → List Sent
signals_given grace [] = []
signals_given grace (Began now holders ∷ calls) = signals_given grace calls
signals_given grace (Stepped now ∷ calls) =
    with_due (due_among (is_grace_over grace (begun_at calls) now) (map (holder_in (signals_given grace calls)) (holders_left calls))) (signals_given grace calls)
signals_given grace (Exited process ∷ calls) = signals_given grace calls

-- The holders that are left, with what each was given.
abbrev pub holders_told : ℕ → List EscalateCall → List Holder
holders_told grace calls = map (holder_in (signals_given grace calls)) (holders_left calls)

-- The signal that is due at a reading.
abbrev pub signal_due : ℕ → List EscalateCall → ℕ → Option Sent
signal_due grace calls now = due_among (is_grace_over grace (begun_at calls) now) (holders_told grace calls)
