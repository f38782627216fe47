-- What a lawful run makes of an id: from a start it goes on by the steps of an id, within the bounds that watchdogs keep.
use Rattle.sl_id_safety.specs.State.IdStates.{id_state}
use Rattle.sl_id_safety.specs.State.StateLaws.{IsIdPlace}
use Rattle.sl_ids.specs.Guards.{terms_of}
use Rattle.sl_ids.specs.Runs.{Later, Reached}
use Rattle.sl_run.specs.Runs.{Happening}
use Rattle.sl_run.specs.Safety.{LawfulRun, world_at}
use Rattle.sl_run.specs.Worlds.{Program}
use Rattle.sl_run.specs.declared.header.Header.{Header}
use Rattle.std.specs.Prelude.{List, ℕ, ◌++◌}

-- From front to front it goes on by its steps.
abbrev pub IdsGoOn : Type 0
IdsGoOn = (p : Program) (h : Header) (now rest : List Happening) (path : List ℕ) (offset : ℕ) → LawfulRun p h (now ++ rest)
    → IsIdPlace p h path offset
    → Later (terms_of h.timing) (id_state (world_at p h now) path offset) (id_state (world_at p h (now ++ rest)) path offset)

-- So it is reached.
abbrev pub IdsAreReached : Type 0
IdsAreReached = (p : Program) (h : Header) (xs : List Happening) (path : List ℕ) (offset : ℕ) → LawfulRun p h xs → IsIdPlace p h path offset
    → Reached (terms_of h.timing) (id_state (world_at p h xs) path offset)
