-- Writes that were made one behind another: all of them, or a front behind which one failed.
use Rattle.sl_area.specs.Sectors.{KeepsOthers, put_at}
use Rattle.sl_direct.specs.FreshAreas.{Write, place_of}
use Rattle.std.specs.Prelude.{List, None, Option, Some, length, [], ⊤, ℕ, ◌++◌, ◌+◌, ◌∷◌, ◌≡◌, ◌≤◌}

-- The content after these writes, one behind another.
abbrev pub written : List Write → List ℕ → List ℕ
written [] content = content
written (w ∷ ws) content = written ws (put_at w.offset w.sector content)

-- Each lies on a disk of so many bytes.
abbrev pub AllFit : List Write → ℕ → Type 0
AllFit [] size = ⊤
AllFit (w ∷ ws) size = (w.offset + length w.sector ≤ size) × AllFit ws size

-- These writes were made, one behind another.
abbrev pub Wrote : List Write → Option (List ℕ) → Option (List ℕ) → Type 0
Wrote ws None after = ⊤
Wrote ws (Some before) None = ⊥
Wrote ws (Some before) (Some after) = AllFit ws (length before) × (after ≡ written ws before)

-- A front of them was made, and the next one failed.
pub record WroteFront (ws : List Write) (before after : List ℕ) : Type 0 where
  pub done : List Write
  pub next : Write
  pub rest : List Write
  pub split : ws ≡ done ++ next ∷ rest
  pub fit : AllFit done (length before)
  pub kept : KeepsOthers (Some (written done before)) (Some after) (place_of next)

-- The same, where the content is told.
abbrev pub BrokeOff : List Write → Option (List ℕ) → Option (List ℕ) → Type 0
BrokeOff ws None after = ⊤
BrokeOff ws (Some before) None = ⊥
BrokeOff ws (Some before) (Some after) = WroteFront ws before after
