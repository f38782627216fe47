use Rattle.sl_host.proofs.books.Books.note_jobs.Given as goal
use Rattle.sl_host.specs.ChosenJobs.{chosen_among}
use Rattle.std.proofs.Common.{take, ◌≡◌}

-- the jobs before this place are noted
abbrev pub invariant-loop-place : goal.invariant-loop-place
invariant-loop-place l = l.notes ≡ record { items = chosen_among l.fn.chosen (take l.place l.self-inside.jobs.jobs); most = l.fn.notes.most }
