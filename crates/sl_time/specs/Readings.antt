-- A clock that gives readings from a list: it never falls, and stays at the last.
use Rattle.sl_words.specs.Bounds.{moments}
use Rattle.std.specs.Prelude.{List, max, min, [], ℕ, ◌-◌, ◌∷◌}

-- The readings to come, and the last answer.
pub record Readings : Type 0 where
  pub rest : List ℕ
  pub last : ℕ

-- The clock after one more answer: the greatest reading so far, below the bound of moments.
abbrev pub after_reading : Readings → Readings
after_reading c = next_of c.rest c.last where
  next_of : List ℕ → ℕ → Readings
  next_of [] last = record { rest = []; last = last }
  next_of (x ∷ xs) last = record { rest = xs; last = max last (min x (moments - 1)) }
