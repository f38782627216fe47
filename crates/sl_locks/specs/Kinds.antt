-- What a kind of line says.
use Rattle.sl_locks.specs.declared.line.Kind.TheVariants.{Compare, Deactivate, Give, Inform, Start, Stop, Take, Write}
use Rattle.sl_locks.specs.declared.line.Kind.{Kind}
use Rattle.sl_run.specs.LvmLines.{Deactivates, Gives, Gives_writing, Informs, LvmLine, Starts, Stops, Takes, Takes_comparing}

abbrev pub line_of : Kind → LvmLine
line_of (Start group id) = Starts group id
line_of (Stop group id) = Stops group id
line_of (Take lock mode) = Takes lock mode
line_of (Compare lock mode) = Takes_comparing lock mode
line_of (Give lock) = Gives lock
line_of (Write lock) = Gives_writing lock
line_of (Deactivate group name) = Deactivates group name
line_of Inform = Informs
