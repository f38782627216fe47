-- How many bytes of a piece a write takes.
use Rattle.std.specs.Prelude.{IfOk, List, Result, length, ℕ, ◌<◌, ◌≤◌}

-- At least one if there is one, and no more than there are.
abbrev pub TakesSome : {E : Type 0} → Result ℕ E → List ℕ → Type 0
TakesSome r piece = IfOk r (λ n. (n ≤ length piece) × (0 < length piece → 0 < n))
