-- What the worlds of a lawful run make of an id: at first a start, and always within the bounds that watchdogs keep.
use Rattle.sl_area.specs.AreaLayout.{delta_offset}
use Rattle.sl_id_safety.specs.State.IdStates.{id_state}
use Rattle.sl_ids.specs.Guards.{terms_of}
use Rattle.sl_ids.specs.Runs.{IsBounded, IsStart}
use Rattle.sl_run.specs.Headers.{IsHeader}
use Rattle.sl_run.specs.Runs.{Happening}
use Rattle.sl_run.specs.Safety.{LawfulRun, world_at}
use Rattle.sl_run.specs.Worlds.{Program, world_with}
use Rattle.sl_run.specs.declared.header.Header.{Header}
use Rattle.sl_run.specs.declared.header.LockspaceLine.{LockspaceLine}
use Rattle.sl_sector.specs.SectorLayouts.{IsDigest}
use Rattle.std.specs.Prelude.{Contains, List, ℕ, ◌≡◌, ◌≤◌}

-- The place of an id of a lockspace of the header.
pub record IsIdPlace (p : Program) (h : Header) (path : List ℕ) (offset : ℕ) : Type 0 where
  pub lockspace : LockspaceLine
  pub id : ℕ
  pub has : Contains h.lockspaces lockspace
  pub range : (1 ≤ id) × (id ≤ h.geometry.hosts)
  pub is_path : path ≡ lockspace.path
  pub is_offset : offset ≡ delta_offset (world_with p h).layout lockspace.offset id

-- At first one record stands there: a free one, or that of a session that has joined.
abbrev pub IdsStart : Type 0
IdsStart = (p : Program) (h : Header) (path : List ℕ) (offset : ℕ) → IsHeader h → IsDigest p.digest → IsIdPlace p h path offset
    → IsStart (id_state (world_with p h) path offset)

-- The watchdogs keep its bounds.
abbrev pub IdsAreBounded : Type 0
IdsAreBounded = (p : Program) (h : Header) (xs : List Happening) (path : List ℕ) (offset : ℕ) → LawfulRun p h xs
    → IsBounded (terms_of h.timing) (id_state (world_at p h xs) path offset)
