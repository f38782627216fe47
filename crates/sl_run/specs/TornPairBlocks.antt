-- What is owed of areas with pairs, beside safety: a torn write blocks no resource.
use Rattle.sl_area.specs.Pairs.{pair_back, pair_front}
use Rattle.sl_run.specs.Caused.{IsCaused}
use Rattle.sl_run.specs.Runs.{AfterEachFront, EachDaemon, Happening, daemons_of}
use Rattle.sl_run.specs.Safety.{LawfulRun, block_there, world_at}
use Rattle.sl_run.specs.Worlds.{Daemon, Program, World}
use Rattle.sl_run.specs.declared.header.Header.{Header}
use Rattle.sl_run.specs.declared.header.ResourceLine.{ResourceLine}
use Rattle.sl_trace.specs.Leases.{blocks_bytes, is_again}
use Rattle.sl_trace.specs.Traces.{Submitted, reply_to, submitted}
use Rattle.sl_trace.specs.declared.reply.Reply.TheVariants.{TornBlock}
use Rattle.std.specs.Prelude.{Contains, IsSome, IsSomeAnd, IsTrue, List, None, Some, true, ℕ, ◌≡◌, ◌≤◌}

-- Each host has a block on each resource: one of its two sectors spells it, whatever became of its writes, and also where no session of
-- it is there any more.
abbrev pub PairsHaveBlocks : World → Type 0
PairsHaveBlocks w =
    w.layout.paired ≡ true → (r : ResourceLine) (host : ℕ) → Contains w.header.resources r → 1 ≤ host → host ≤ w.layout.hosts →
    IsSome (block_there w (record { path = r.path; base = r.offset }) host)

-- Both sectors of the host were torn when the second read, which this entry answers, sampled them.
pub record NamesTorn (d : Daemon) (at host : ℕ) : Type 0 where
  pub read : Submitted
  pub bytes : List ℕ
  pub second : Contains (submitted d.trace) read × IsTrue (is_again read) × IsSomeAnd read.answer (λ a. a.at ≡ at)
  pub gives : blocks_bytes d.setting.layout read ≡ Some bytes
  pub torn : (pair_front d.setting.layout bytes host ≡ None) × (pair_back d.setting.layout bytes host ≡ None)

-- Whoever is refused for a torn block is told of such a host.
abbrev pub TornBlocksAreTorn : World → Type 0
TornBlocksAreTorn w =
    w.layout.paired ≡ true → (d : Daemon) (job at host : ℕ) → Contains (daemons_of w) d → reply_to d.trace job ≡ Some (record { at = at; reply = TornBlock host }) →
    NamesTorn d at host

-- After every event of every lawful run.
abbrev pub PairsStand : Type 0
PairsStand = (program : Program) (h : Header) (xs : List Happening) → LawfulRun program h xs → AfterEachFront xs (λ now. PairsHaveBlocks (world_at program h now))

-- Where each reply has its cause.
abbrev pub TornBlocksAreNamed : Type 0
TornBlocksAreNamed = (program : Program) (h : Header) (xs : List Happening) → LawfulRun program h xs → EachDaemon IsCaused (world_at program h xs) →
    TornBlocksAreTorn (world_at program h xs)
