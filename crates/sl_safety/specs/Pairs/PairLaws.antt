-- What a lawful run over areas with pairs promises of each pair.
use Rattle.sl_safety.specs.Resources.Histories.{is_host}
use Rattle.sl_safety.specs.Pairs.PairLogs.{pair_log}
use Rattle.sl_ballot_law.specs.PairLogs.Logs.{IsLog}
use Rattle.sl_run.specs.Runs.{Happening}
use Rattle.sl_run.specs.Safety.{LawfulRun, world_at}
use Rattle.sl_run.specs.Worlds.{Program}
use Rattle.sl_run.specs.declared.header.Header.{Header}
use Rattle.sl_run.specs.declared.header.ResourceLine.{ResourceLine}
use Rattle.std.specs.Prelude.{Contains, List, true, ℕ, ◌≡◌}

-- What is told of a host's pair keeps what is asked of it: so it is a run of the pair.
abbrev pub PairsAreLogs : Type 0
PairsAreLogs = (p : Program) (h : Header) (xs : List Happening) (r : ResourceLine) → LawfulRun p h xs → (world_at p h xs).layout.paired ≡ true
    → Contains h.resources r → (k : ℕ) → is_host (world_at p h xs) k ≡ true → IsLog (pair_log (world_at p h xs) r k)
