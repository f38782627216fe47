use Rattle.sl_disks.proofs.DiskLaws.{disks_stay, first_sized}
use Rattle.sl_disks.proofs.disks.untouched_sector.Goals as goal
use Rattle.std.proofs.Common.{List, ap, length, ℕ, ◌∙◌}

pub returns-in_ok-clone-in-Some-clause-lawful : goal.returns-in_ok-clone-in-Some-clause-lawful
returns-in_ok-clone-in-Some-clause-lawful c =
    rw c.put.ensures
    (disks_stay _ _ _ _ _ _ c.requires.lawful
    (ap (λ (x : List ℕ). length x) (c.in_ok-clone-in-Some.ensures.cases ∙ c.in_ok-image-in-Some.ensures)
    ∙ first_sized c.args.header.now c.in-Some.path c.args.number c.requires.lawful.header))
