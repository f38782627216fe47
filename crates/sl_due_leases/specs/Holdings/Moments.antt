-- How far a step has come, by what it has granted and ended.
use Rattle.sl_due.specs.Steps.{Step}
use Rattle.sl_due_facts.specs.Facts.AllFacts.{Whole}
use Rattle.sl_trace.specs.declared.effects.Call.{Call}
use Rattle.sl_trace.specs.declared.effects.Purpose.TheVariants.{Leaving}
use Rattle.sl_trace.specs.declared.input.Input.TheVariants.{Spawned, Wake}
use Rattle.std.specs.Prelude.{Bool, Contains, [], ℕ, ◌≡◌}

-- Before an input nothing is granted or ended, nor by a wake; after the answer to a start nothing is granted, and the only calls are frees
-- of leavings.
pub record Moment (x : Step) : Type 0 where
  pub waking : x.input ≡ Wake → (x.effects.ends ≡ []) × (x.effects.grants ≡ [])
  pub starting : (p : ℕ) (ok : Bool) (c : Call) → x.input ≡ Spawned p ok → Contains x.effects.calls c → (j : ℕ) × (c.purpose ≡ Leaving j)
  pub ungranted : (p : ℕ) (ok : Bool) → x.input ≡ Spawned p ok → x.effects.grants ≡ []

-- All that is known at a moment of a step.
abbrev pub Known : Step → Type 0
Known x = Whole x × Moment x
