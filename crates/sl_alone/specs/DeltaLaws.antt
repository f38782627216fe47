-- What no step of a delta lease does.
use Rattle.sl_alone.specs.DeltaSteps.{IsFitInput, LeaseState, after_step, begun, is_over, out_of_step}
use Rattle.sl_alone.specs.declared.delta_lease.Standing.TheVariants.{Holds}
use Rattle.sl_alone.specs.declared.delta_steps.DeltaIn.TheVariants.{Leave}
use Rattle.sl_alone.specs.declared.delta_steps.DeltaIn.{DeltaIn}
use Rattle.std.specs.Prelude.{None, false, true, ℕ, ◌≡◌}

pub record StepsAreSafe : Type 0 where
  -- in recovery a joined session makes no call
  pub recovery : (now : ℕ) (i : DeltaIn) (l : LeaseState) → l.standing ≡ Holds → (begun now l).recovering ≡ true → (out_of_step now i l).call ≡ None
  -- refused or left it makes none, and stays so
  pub over : (now : ℕ) (i : DeltaIn) (l : LeaseState) → is_over l.standing ≡ true → IsFitInput l i → (out_of_step now i l).call ≡ None
  pub stays_over : (now : ℕ) (i : DeltaIn) (l : LeaseState) → is_over l.standing ≡ true → IsFitInput l i → (after_step now i l).standing ≡ l.standing
  -- a free is written beside no other call
  pub alone : (l : LeaseState) → IsFitInput l Leave → l.recovering ≡ false → l.waits ≡ None
