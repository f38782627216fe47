-- What spawners are asked to do, and which children they tell as exited.
use Rattle.sl_outside.specs.declared.act.Act.{Act}
use Rattle.std.specs.Prelude.{List, None, Option, Some, ⊤, ℕ, ◌++◌, ◌∷◌, ◌≡◌}

-- These came on top, where that is told. What is not told once is never told again.
abbrev pub Grows : {E : Type 0} → Option (List E) → Option (List E) → List E → Type 0
Grows None after xs = after ≡ None
Grows (Some before) None xs = ⊤
Grows (Some before) (Some after) xs = after ≡ before ++ xs

-- A spawner was asked for just these, where it tells what it was asked for.
abbrev pub Tells : Option (List Act) → List Act → Type 0
Tells None acts = ⊤
Tells (Some told) acts = told ≡ acts

-- One child less, wherever it stood.
pub record IsLess (process : ℕ) (before after : List ℕ) : Type 0 where
  pub front : List ℕ
  pub rest : List ℕ
  pub stood : before ≡ front ++ process ∷ rest
  pub stands : after ≡ front ++ rest

-- What a poll answers: a child that was running and is so no more, or none, and all run as before.
abbrev pub IsTold : Option ℕ → List ℕ → List ℕ → Type 0
IsTold None before after = after ≡ before
IsTold (Some process) before after = IsLess process before after

-- What is seen of child programs: their numbers, in the order of their starts, and the faults.
pub record Children : Type 0 where
  pub running : List ℕ
  pub faults : ℕ
