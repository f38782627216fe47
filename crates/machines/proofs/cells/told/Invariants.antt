use Rattle.sl_world_state.specs.Daemons.{begun_with}
use Rattle.sl_host_step.specs.HostServes.{whole_commands}
use Rattle.machines.proofs.cells.told.Given as goal

-- the book that was just opened
abbrev pub ghosts-push_told_of-J-Shelf : goal.ghosts-push_told_of-J-Shelf
ghosts-push_told_of-J-Shelf g a = record { book = a.opened.seen.book }

-- the setting that site and header make
abbrev pub ghosts-push_told_of-J-Station : goal.ghosts-push_told_of-J-Station
ghosts-push_told_of-J-Station g a = record { setting = begun_with whole_commands a.begun.header a.begun.site }
