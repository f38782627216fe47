-- The connections of a machine to its watchdog daemon, as a daemon's moves leave them.
use Rattle.sl_time.specs.Times.{TimingNumbers, fail}
use Rattle.sl_trace.specs.Traces.{Setting, Trace}
use Rattle.sl_trace.specs.declared.effects.Move.TheVariants.{Register, Renew, Unregister}
use Rattle.sl_trace.specs.declared.effects.Move.{Move}
use Rattle.sl_trace.specs.declared.input.Given.{Given}
use Rattle.std.specs.List.{list_any}
use Rattle.std.specs.Prelude.{Bool, List, Option, bytes_eq, false, filter, find, fold, if◌then◌else◌, is_some, map, nat_le, not, true, [], ℕ, ◌&&◌, ◌++◌, ◌+◌, ◌==◌, ◌∷◌}

-- A connection: a lockspace's name, and the reading from which on the test fails.
pub record Connection : Type 0 where
  pub name : List ℕ
  pub expiry : ℕ

-- The connection with the later expiry, where it has this name.
abbrev pub renewed_connection : List ℕ → ℕ → Connection → Connection
renewed_connection name expiry c = if bytes_eq c.name name then record c { expiry = expiry } else c

-- What a move leaves.
abbrev pub after_move : List Connection → Move → List Connection
after_move cs (Register name expiry) = cs ++ record { name = name; expiry = expiry } ∷ []
after_move cs (Renew name expiry) = map (renewed_connection name expiry) cs
after_move cs (Unregister name) = filter (λ c. not (bytes_eq c.name name)) cs

-- The connection that a session has which was joined before its daemon began.
abbrev pub given_connection : TimingNumbers → Given → Connection
given_connection tm g = record { name = g.lockspace; expiry = g.renewed + fail tm }

-- The connections that a daemon's given sessions and moves leave.
abbrev pub connections : Setting → Trace → List Connection
connections st [] = map (given_connection st.timing) st.given
connections st (e ∷ es) = fold after_move (connections st es) e.effects.moves

-- The connection of this name.
abbrev pub connection_named : List Connection → List ℕ → Option Connection
connection_named cs name = find (λ c. bytes_eq c.name name) cs

-- Whether the daemon has a connection of this name.
abbrev pub is_registered : Setting → Trace → List ℕ → Bool
is_registered st es name = is_some (connection_named (connections st es) name)

-- The watchdog daemon's test: no connection has expired.
abbrev pub test_holds : List Connection → ℕ → Bool
test_holds cs now = not (list_any (λ c. nat_le c.expiry now) cs)

-- Whether the move registers this name, whatever the expiry.
abbrev pub registers : List ℕ → Move → Bool
registers name (Register n x) = bytes_eq n name
registers name (Renew n x) = false
registers name (Unregister n) = false

-- Whether the move registers this name with this expiry.
abbrev pub registers_with : List ℕ → ℕ → Move → Bool
registers_with name expiry (Register n x) = bytes_eq n name && x == expiry
registers_with name expiry (Renew n x) = false
registers_with name expiry (Unregister n) = false

-- Whether the move removes this name.
abbrev pub unregisters : List ℕ → Move → Bool
unregisters name (Register n x) = false
unregisters name (Renew n x) = false
unregisters name (Unregister n) = bytes_eq n name

-- The reading of the last registering of this name, and 0 before any.
abbrev pub last_registering : Trace → List ℕ → ℕ
last_registering [] name = 0
last_registering (e ∷ es) name = elim (list_any (registers name) e.effects.moves) [ true ↦ e.reading | false ↦ last_registering es name ]
