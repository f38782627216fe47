use Rattle.sl_own.proofs.run.run_put.Given as goal

-- the book that was just opened
abbrev pub ghosts-run_ready : goal.ghosts-run_ready
ghosts-run_ready g a = record { book = a.given.seen.book }
