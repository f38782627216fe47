use Rattle.sl_own.proofs.run.run_own.Given as goal

-- the book that was just opened
abbrev pub ghosts-run_put-O-Shelf : goal.ghosts-run_put-O-Shelf
ghosts-run_put-O-Shelf g a = record { book = a.told.seen.book }

-- what the sink has before
abbrev pub ghosts-run_put-O-Press : goal.ghosts-run_put-O-Press
ghosts-run_put-O-Press g a = record { taken = g.K.Sink.taken a.sink; faults = g.K.Sink.faults a.sink }
