-- What devices hand out, and what comes back to them.
use Rattle.sl_outside.specs.Acts.{Grows}
use Rattle.sl_outside.specs.declared.act.Act.{Act}
use Rattle.std.specs.Prelude.{List, Option, ℕ}

-- What was handed out, and what came back, as it was then.
pub data Lending : Type 0 where
  -- the disk at this path went to a worker of a machine; it had this, where areas tell what they have
  AreaOut : (machine worker : ℕ) → (path : List ℕ) → (content : Option (List ℕ)) → Lending
  -- an area came back: it has this, and counted so many faults
  AreaBack : (content : Option (List ℕ)) → (faults : ℕ) → Lending
  -- the spawner of a machine, which was asked for nothing
  SpawnerOut : (machine : ℕ) → Lending
  -- a spawner came back, which was asked for this, where spawners tell what they were asked for
  SpawnerBack : (acts : Option (List Act)) → Lending

-- More was handed out or came back since, or nothing.
abbrev pub GoesOn : Option (List Lending) → Option (List Lending) → Type 0
GoesOn before after = (more : List Lending) × Grows before after more
