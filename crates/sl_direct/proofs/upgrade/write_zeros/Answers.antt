-- The sector has zeros.
use Rattle.sl_area.proofs.SizeLaws.{has_room}
use Rattle.sl_area.specs.AreaLayout.{leader_offset}
use Rattle.sl_area.specs.Roles.{place_at}
use Rattle.sl_direct.proofs.UpgradeLaws.{zeros_broke_off, zeros_wrote}
use Rattle.sl_direct.proofs.upgrade.write_zeros.Goals as goal

pub returns-clause-ok : goal.returns-clause-ok
returns-clause-ok g c =
    zeros_wrote c.write.result c.leader_place.result (place_at c.args.geometry (leader_offset c.args.base)) c.sector.result _ _ c.leader_place.ensures c.sector.ensures.exact
    (has_room c.args.geometry c.requires.sizes).sector.1 c.write.ensures.ok

pub returns-clause-failed : goal.returns-clause-failed
returns-clause-failed g c =
    zeros_broke_off c.write.result c.leader_place.result (place_at c.args.geometry (leader_offset c.args.base)) _ _ c.leader_place.ensures c.write.ensures.failed
