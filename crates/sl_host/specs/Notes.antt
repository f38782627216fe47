-- What is noted as a pass begins.
use Rattle.std.specs.Prelude.{List, ℕ}

-- What is noted; for how many there is memory.
pub record NotesState (T : Type 0) : Type 0 where
  pub items : List T
  pub most : ℕ
