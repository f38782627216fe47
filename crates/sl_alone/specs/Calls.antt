-- What was called so far, newest call first, and what it tells of the holders.
use Rattle.std.specs.Prelude.{Bool, List, None, Option, Some, false, filter, not, [], ℕ, ◌==◌, ◌||◌, ◌∷◌}

-- A call: the beginning with its reading and its holders, a step at a reading, or a process's exit.
pub data EscalateCall : Type 0 where
  Began : ℕ → List ℕ → EscalateCall
  Stepped : ℕ → EscalateCall
  Exited : ℕ → EscalateCall

-- The reading at which it began.
abbrev pub begun_at : List EscalateCall → Option ℕ
begun_at [] = None
begun_at (Began now holders ∷ calls) = Some now
begun_at (Stepped now ∷ calls) = begun_at calls
begun_at (Exited process ∷ calls) = begun_at calls

-- The processes that held when it began.
abbrev pub holders_begun : List EscalateCall → List ℕ
holders_begun [] = []
holders_begun (Began now holders ∷ calls) = holders
holders_begun (Stepped now ∷ calls) = holders_begun calls
holders_begun (Exited process ∷ calls) = holders_begun calls

-- Whether the process has exited since it began.
abbrev pub has_exited : ℕ → List EscalateCall → Bool
has_exited process [] = false
has_exited process (Began now holders ∷ calls) = false
has_exited process (Stepped now ∷ calls) = has_exited process calls
has_exited process (Exited other ∷ calls) = process == other || has_exited process calls

-- The holders that are left, in the order in which they were given.
abbrev pub holders_left : List EscalateCall → List ℕ
holders_left [] = []
holders_left (Began now holders ∷ calls) = holders
holders_left (Stepped now ∷ calls) = holders_left calls
holders_left (Exited process ∷ calls) = filter (λ holder. not (holder == process)) (holders_left calls)
