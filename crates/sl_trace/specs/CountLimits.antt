-- What is counted of a machine or a daemon, and the most that there may be of it.
use Rattle.std.specs.Prelude.{ℕ}

-- Lockspaces of a machine.
abbrev pub most_lockspaces : ℕ
most_lockspaces = 8

-- Resources of a machine.
abbrev pub most_resources : ℕ
most_resources = 256

-- Holdings of a machine, with the jobs that may become such.
abbrev pub most_holders : ℕ
most_holders = 1024

-- Child numbers of a daemon.
abbrev pub most_children : ℕ
most_children = 1000000

-- The greatest number of a process that is no child of a daemon.
abbrev pub most_processes : ℕ
most_processes = 1000000

-- Processes of a daemon with a kill program.
abbrev pub most_killpaths : ℕ
most_killpaths = 1024
