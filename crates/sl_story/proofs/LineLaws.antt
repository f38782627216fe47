-- How long a first line is.
use Rattle.sl_text.specs.Lines.{IsFirstLine}
use Rattle.std.proofs.Common.{List, ap, arith, inl, inr, length, length-append, ℕ, ◌+◌, ◌<◌, ◌≤◌, ◌∷◌}

-- A line is no longer than the source, and where something stands behind it, a line feed stands between.
pub first_line_fits : (source line rest : List ℕ) → IsFirstLine source line rest → (length line ≤ length source) × (0 < length rest → length line + 1 + length rest ≤ length source)
first_line_fits source line rest h =
    elim h.text [
      | inl e ↦ (omega (arith, ap length e, length-append line (10 ∷ rest)), λ some. omega (arith, ap length e, length-append line (10 ∷ rest)))
      | inr e ↦ (omega (arith, ap length e.0), λ some. absurd (omega (arith, ap length e.1)))
    ]
