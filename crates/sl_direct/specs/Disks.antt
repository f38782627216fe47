-- What a disk holds after writes: after all of them, and after a front of them behind which one failed.
use Rattle.sl_direct.specs.FreshAreas.{Write}
use Rattle.std.specs.Prelude.{All, List, None, Option, Some, drop, length, slice_index, take, [], ⊤, ℕ, ◌++◌, ◌+◌, ◌<◌, ◌∷◌, ◌≡◌, ◌≤◌, ◌⊎◌}

-- ---- what is held

-- The sector lies on the disk, and stands where it was written.
abbrev pub Stands : List ℕ → Write → Type 0
Stands content w = (w.offset + length w.sector ≤ length content) × (take (length w.sector) (drop w.offset content) ≡ w.sector)

-- The byte at this offset is none that the write replaces.
abbrev pub IsOutside : ℕ → Write → Type 0
IsOutside at w = (at < w.offset) ⊎ (w.offset + length w.sector ≤ at)

-- Each write stands, and every other byte is as it was.
pub record Holds (ws : List Write) (before after : List ℕ) : Type 0 where
  pub long : length after ≡ length before
  pub each : All (Stands after) ws
  pub others : (at : ℕ) → All (IsOutside at) ws → slice_index after at ≡ slice_index before at

-- A write failed: those before it stand, its own sector may have any bytes, and every other byte is as it was.
pub record HoldsFront (ws : List Write) (before after : List ℕ) : Type 0 where
  pub done : List Write
  pub next : Write
  pub rest : List Write
  pub split : ws ≡ done ++ next ∷ rest
  pub long : length after ≡ length before
  pub each : All (Stands after) done
  pub others : (at : ℕ) → All (IsOutside at) (done ++ next ∷ []) → slice_index after at ≡ slice_index before at

-- All writes were made, where the content is told.
abbrev pub IsInitialised : List Write → Option (List ℕ) → Option (List ℕ) → Type 0
IsInitialised ws None after = ⊤
IsInitialised ws (Some before) None = ⊥
IsInitialised ws (Some before) (Some after) = Holds ws before after

-- One of the writes failed, where the content is told.
abbrev pub IsBrokenOff : List Write → Option (List ℕ) → Option (List ℕ) → Type 0
IsBrokenOff ws None after = ⊤
IsBrokenOff ws (Some before) None = ⊥
IsBrokenOff ws (Some before) (Some after) = HoldsFront ws before after
