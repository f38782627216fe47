-- Disks that stand.
use Rattle.std.specs.Prelude.{List, None, Option, Some, length, ⊤, ℕ, ◌≡◌}

-- So many bytes, of a disk that has this content, where that is told; of one of which it is told that there is none, none.
abbrev pub IsSizeOf : Option (List ℕ) → Option ℕ → Type 0
IsSizeOf None size = ⊤
IsSizeOf (Some content) size = size ≡ Some (length content)
