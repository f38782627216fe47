use Rattle.sl_live_run.proofs.GivenLaws.{TellsSo}
use Rattle.sl_live_run.proofs.script.give_all.Given as goal
use Rattle.sl_live_run.specs.Runs.{AreGiven, HasPutOut}
use Rattle.std.proofs.Common.{[], ℕ}

-- the lines so far are noted, and which of them are refused is put out
abbrev pub invariant-loop : goal.invariant-loop
invariant-loop g l =
    (machines : ℕ) → AreGiven l.fn.ledger machines [] → HasPutOut l.fn.writer [] → TellsSo machines (g.L.LiveLines.has_given l.fn.lines) (g.L.LiveLines.has_given l.lines) l.ledger l.writer
