-- What of a header the lines behind it are read by.
use Rattle.sl_reader.specs.declared.scope.Scope.{Scope}
use Rattle.sl_run.specs.declared.header.Header.{Header}
use Rattle.std.specs.Prelude.{Bool, None, Option, Some, false, nat_lt, not, ℕ, ◌==◌, ◌||◌}

-- Where all machines run.
abbrev pub scope_of : Header → Scope
scope_of h = record { machines = h.machines; geometry = h.geometry; only = None }

-- Where the machine of this number runs alone.
abbrev pub own_scope : Header → ℕ → Scope
own_scope h m = record { machines = h.machines; geometry = h.geometry; only = Some m }

-- Whether another machine runs alone.
abbrev pub is_other : Option ℕ → ℕ → Bool
is_other None m = false
is_other (Some own) m = not (own == m)

-- Whether the machine of this number does not run.
abbrev pub is_elsewhere : Scope → ℕ → Bool
is_elsewhere s m = nat_lt s.machines m || is_other s.only m
