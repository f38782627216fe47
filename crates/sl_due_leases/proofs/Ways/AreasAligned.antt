-- Where areas begin.
use Rattle.std.proofs.Common.{ap, arith, ◌∙◌}
use Rattle.std.proofs.Math.Nat.{div-add-mod, mul-mod_right}
use Rattle.std.specs.Prelude.{ℕ, ◌%◌, ◌*◌, ◌-◌, ◌/◌, ◌≡◌}

base_is : (area o : ℕ) → o - o % area ≡ area * (o / area)
base_is area o = omega (arith, div-add-mod o area)

-- The area of a call begins at a base.
pub spot_aligned : (area o : ℕ) → (o - o % area) % area ≡ 0
spot_aligned area o = ap (λ n. n % area) (base_is area o) ∙ mul-mod_right area (o / area)
