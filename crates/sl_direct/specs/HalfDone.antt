-- Between the beginning and the end of an action: writes that were made one behind another, and sectors that were told so.
use Rattle.sl_area.specs.Sectors.{IsReadAt}
use Rattle.sl_direct.specs.Actions.{Acts, AreReadAt}
use Rattle.sl_direct.specs.Lines.{dump_lines, sector_line}
use Rattle.sl_direct.specs.declared.action.Action.{Action}
use Rattle.sl_direct.specs.declared.action.Directed.TheVariants.{AreaFault, NoMemory}
use Rattle.sl_direct.specs.declared.action.Directed.{Directed}
use Rattle.sl_text.specs.Forms.{as_bytes}
use Rattle.sl_io.specs.FaultCauses.{Rose}
use Rattle.std.specs.Prelude.{List, Option, length, [], ℕ, ◌++◌, ◌∷◌, ◌≡◌, ◌⊎◌}
pub use Rattle.sl_direct.specs.Writes.{AllFit, BrokeOff, Wrote, WroteFront, written}

-- ---- sectors that are told

-- So many of them were read, each of `size` bytes, and each was told in a line of its own.
pub record AreTold (content : Option (List ℕ)) (size offset count : ℕ) (out : List ℕ) : Type 0 where
  pub sectors : List (List ℕ)
  pub long : length sectors ≡ count
  pub read : AreReadAt content size offset sectors
  pub told : out ≡ as_bytes (dump_lines size offset sectors)

-- One more was.
pub record IsToldAt (content : Option (List ℕ)) (size at : ℕ) (out later : List ℕ) : Type 0 where
  pub sector : List ℕ
  pub long : length sector ≡ size
  pub read : IsReadAt content at sector
  pub told : later ≡ out ++ sector_line at sector ++ 10 ∷ []

-- Why no more was: a read failed, or there was no memory.
abbrev pub IsStopped : ℕ → ℕ → Directed → Type 0
IsStopped faults later d = ((d ≡ AreaFault) × Rose faults later) ⊎ (d ≡ NoMemory)

-- ---- an action

-- What was printed, line by line.
abbrev pub HasActed : Action → Option (List ℕ) → Option (List ℕ) → List ℕ → Directed → Type 0
HasActed a content after out d = (lines : List (List ℕ)) × (out ≡ as_bytes lines) × Acts a content after lines d
