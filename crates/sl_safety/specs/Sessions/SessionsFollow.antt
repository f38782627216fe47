-- The sessions of a host follow one another on each resource.
use Rattle.sl_safety.specs.Resources.Orders.{BlockSent, Follows}
use Rattle.sl_safety.specs.Resources.SentCalls.{Sent, sender_of}
use Rattle.sl_run.specs.Runs.{Happening}
use Rattle.sl_run.specs.Safety.{LawfulRun, world_at}
use Rattle.sl_run.specs.Worlds.{Program}
use Rattle.sl_run.specs.declared.header.Header.{Header}
use Rattle.sl_run.specs.declared.header.ResourceLine.{ResourceLine}
use Rattle.std.specs.Prelude.{Contains, List, ℕ}

-- Of two sessions that sent blocks of one host to a resource nothing of the one lands there any more once the other has joined, unless
-- they are one.
abbrev pub SessionsFollow : Type 0
SessionsFollow = (p : Program) (h : Header) (xs : List Happening) (r : ResourceLine) → LawfulRun p h xs → Contains h.resources r → (k : ℕ) (x y : Sent)
    → BlockSent (world_at p h xs) r k x → BlockSent (world_at p h xs) r k y → Follows (world_at p h xs) r k (sender_of x) (sender_of y)
