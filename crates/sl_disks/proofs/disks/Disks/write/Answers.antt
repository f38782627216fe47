use Rattle.sl_disks.proofs.DiskLaws.{disks_stay}
use Rattle.sl_disks.proofs.disks.Disks.write.Goals as goal
use Rattle.sl_disks.specs.Disks.{DisksState}
use Rattle.std.proofs.Common.{ap, sym, ◌∙◌}

pub invariant_of-self : goal.invariant_of-self
invariant_of-self c =
    rw c.put.ensures (disks_stay _ _ _ _ _ _ c.self.invariant (c.requires ∙ sym (ap (λ (v : DisksState). v.header.geometry.sector) c.self.view_is)))
