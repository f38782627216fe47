-- What is told of a machine beside its replies, where this is asked for: recoveries, exits of children, ends and signals.
use Rattle.sl_command.specs.OutputLines.{line_text}
use Rattle.sl_time.specs.Times.{TimingNumbers}
use Rattle.sl_trace.specs.EffectTexts.{end_words, sent_words}
use Rattle.sl_trace.specs.WatchdogConnections.{Connection, after_move, given_connection}
use Rattle.sl_trace.specs.declared.effects.Entry.{Entry}
use Rattle.sl_trace.specs.declared.input.Given.{Given}
use Rattle.sl_trace.specs.declared.input.Input.TheVariants.{Answer as Told, Exit, Line, Number, Spawned, Wake}
use Rattle.sl_trace.specs.declared.input.Input.{Input}
use Rattle.std.specs.Option.{option_to_list}
use Rattle.std.specs.Prelude.{Bool, List, None, Option, Some, codes, decimal, filter, flat_map, fold, if◌then◌else◌, map, nat_le, nat_lt, [], ℕ, ◌&&◌, ◌++◌, ◌∷◌}

-- ---- what goes along a history

-- Whether events are told; the connections to the watchdog daemon, and the reading of the last entry, 0 before the first. Where no events are told
-- none of it is kept.
pub record Telling : Type 0 where
  pub events : Bool
  pub connections : List Connection
  pub reading : ℕ

-- Before the first entry of a daemon with these sessions.
abbrev pub first_telling : Bool → TimingNumbers → List Given → Telling
first_telling events tm given = record { events = events; connections = if events then map (given_connection tm) given else []; reading = 0 }

-- After one entry more.
abbrev pub telling_after : Telling → Entry → Telling
telling_after t e = if t.events then record t { connections = fold after_move t.connections e.effects.moves; reading = e.reading } else t

-- After all of these.
abbrev pub telling_along : Telling → List Entry → Telling
telling_along t [] = t
telling_along t (e ∷ h) = telling_along (telling_after t e) h

-- ---- one entry

-- Whether an expiry lies behind the first reading, and not behind the second.
abbrev pub expires_between : ℕ → ℕ → Connection → Bool
expires_between before now c = nat_lt before c.expiry && nat_le c.expiry now

-- The connections that expire by this entry: the watchdog daemon's test of them held at the reading before, and fails at this one.
abbrev pub run_out : Telling → Entry → List Connection
run_out t e = filter (expires_between t.reading e.reading) t.connections

-- The child whose exit the input is, if it is one.
abbrev pub exited : Input → Option ℕ
exited (Exit p) = Some p
exited (Line text) = None
exited (Number text) = None
exited (Told call answer) = None
exited Wake = None
exited (Spawned process ok) = None

-- The words of a recovery: the lockspace's name.
abbrev pub recovery_words : Connection → List (List ℕ)
recovery_words c = codes "recovery" ∷ c.name ∷ []

-- The words of an exit.
abbrev pub exit_words : ℕ → List (List ℕ)
exit_words p = codes "exit" ∷ decimal p ∷ []

-- The line of a connection's recovery, if it expires between these readings.
abbrev pub recovery_text : ℕ → ℕ → ℕ → Connection → List ℕ
recovery_text m before now c = if expires_between before now c then line_text m (recovery_words c) else []

-- What is told of an entry beside its replies, in this order.
abbrev pub event_words : Telling → Entry → List (List (List ℕ))
event_words t e =
    map recovery_words (run_out t e) ++ map exit_words (option_to_list (exited e.input)) ++ map end_words e.effects.ends ++ map sent_words e.effects.signals

-- .. as a machine's lines, if events are told.
abbrev pub told_events : ℕ → Telling → Entry → List ℕ
told_events m t e = if t.events then flat_map (line_text m) (event_words t e) else []
