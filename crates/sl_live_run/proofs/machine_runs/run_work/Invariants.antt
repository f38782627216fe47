use Rattle.sl_world_state.specs.Daemons.{begun_with}
use Rattle.sl_live_run.proofs.machine_runs.run_work.Given as goal

-- the book that was just opened
abbrev pub ghosts-run_as-J-Shelf : goal.ghosts-run_as-J-Shelf
ghosts-run_as-J-Shelf g a = record { book = a.opened.seen.book }

-- the setting that site and header make
abbrev pub ghosts-run_as-J-Station : goal.ghosts-run_as-J-Station
ghosts-run_as-J-Station g a = record { setting = begun_with g.D.Daemon.commands a.shared.now.header.now a.work.site }
