-- How connections are kept: names with their expiry, in the order of a map, and behind them a list.
use Rattle.sl_trace.specs.WatchdogConnections.{Connection}
use Rattle.std.specs.Prelude.{List, map, ℕ, ◌++◌}

-- The connections, in order of registration, and for how many more memory stands by.
pub record WdmdState : Type 0 where
  pub connections : List Connection
  pub room : ℕ

-- The connection that an entry of the map stands for.
abbrev pub connection_of : List ℕ × ℕ → Connection
connection_of e = record { name = e.0; expiry = e.1 }

-- The connections, in the order of the map.
abbrev pub connections_of : List (List ℕ × ℕ) → List Connection
connections_of es = map connection_of es

-- All of them.
abbrev pub all_connections : List (List ℕ × ℕ) → List Connection → List Connection
all_connections es behind = connections_of es ++ behind
