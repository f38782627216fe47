-- A scope that is there, whatever it is.
use Rattle.sl_reader.specs.declared.scope.Scope.{Scope}
use Rattle.std.specs.Prelude.{None, false}

-- It is never read.
abbrev pub any_scope : Scope
any_scope = record { machines = 1; geometry = record { sector = 512; area = 1048576; hosts = 1; paired = false }; only = None }
