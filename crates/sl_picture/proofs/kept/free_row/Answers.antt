-- A row that is taken is passed.
use Rattle.sl_picture.proofs.kept.free_row.Goals as goal
use Rattle.sl_picture.specs.Kept.{free_from, is_taken}
use Rattle.sl_picture.specs.declared.shapes.Bar.{Bar}
use Rattle.std.proofs.Common.{Bool, List, ap, arith, length, suc, sym, true, ℕ, ◌+◌, ◌-◌, ◌∙◌, ◌≡◌}
use Rattle.std.specs.Prelude.{if◌then◌else◌}

passed : (n : ℕ) (bs : List Bar) (m : ℕ) (holding : Bool) (row : ℕ) → is_taken bs m holding row ≡ true → free_from (suc n) bs m holding row ≡ free_from n bs m holding (row + 1)
passed n bs m holding row is = ap (λ t. if t then free_from n bs m holding (row + 1) else row) is

pub loop-row-preserved : goal.loop-row-preserved
loop-row-preserved c =
    let bs = c.args.opened.now in
    let m = c.args.machine in
    let holding = c.args.holding in
    let row = c.loop-row.row in
    let left : length bs - row ≡ suc (length bs - (row + 1)) = omega arith in
    record {
      within = omega arith;
      first = sym (ap (λ n. free_from n bs m holding row) left ∙ passed (length bs - (row + 1)) bs m holding row (sym c.is_taken.ensures ∙ c.if-is_taken.true)) ∙ c.loop-row.invariant.first;
    }
