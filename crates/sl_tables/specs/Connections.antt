-- Connections that stand.
use Rattle.std.specs.Prelude.{List, ℕ}

-- Their lockspaces, in the order of their registering; for how many more there is memory.
pub record ConnectionsState : Type 0 where
  pub names : List (List ℕ)
  pub room : ℕ
