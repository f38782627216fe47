-- The label stands behind the ids' records, or one of them fails.
use Rattle.sl_area.specs.AreaLayout.{value_offset}
use Rattle.sl_area.specs.AreaSizes.{layout_of}
use Rattle.sl_area.specs.Roles.{place_at}
use Rattle.sl_direct.proofs.DiskLaws.{BrokeOff-front, on_err}
use Rattle.sl_direct.proofs.FreshLaws.{label_broke, label_wrote}
use Rattle.sl_direct.proofs.labelled.write_labelled.Goals as goal
use Rattle.sl_direct.specs.FreshAreas.{label_write, lockspace_writes}
use Rattle.sl_label.specs.Labels.{label_record}
use Rattle.std.specs.Prelude.{[], ◌∷◌}

pub returns-in_err-write_lockspace-clause-failed : goal.returns-in_err-write_lockspace-clause-failed
returns-in_err-write_lockspace-clause-failed g c =
    on_err _ _ (BrokeOff-front (lockspace_writes (layout_of c.args.geometry) c.args.label.now.lockspace c.args.base)
    (label_write (layout_of c.args.geometry) c.args.base c.args.label.now ∷ []) _ _ c.in_err-write_lockspace.ensures.failed)

pub returns-in_err-write_record-clause-failed : goal.returns-in_err-write_record-clause-failed
returns-in_err-write_record-clause-failed g c =
    let layout = layout_of c.args.geometry in
    on_err _ _ (label_broke (lockspace_writes layout c.args.label.now.lockspace c.args.base) _ (place_at c.args.geometry (value_offset layout c.args.base)) _ (label_record c.args.label.now) _ _ _
    c.value_place.ensures c.requires.record c.in_ok-write_lockspace.ensures.ok c.in_err-write_record.ensures.failed)

pub returns-clause-ok : goal.returns-clause-ok
returns-clause-ok g c =
    let layout = layout_of c.args.geometry in
    label_wrote (lockspace_writes layout c.args.label.now.lockspace c.args.base) _ (place_at c.args.geometry (value_offset layout c.args.base)) _ (label_record c.args.label.now) _ _ _
    c.value_place.ensures c.requires.record c.in_ok-write_lockspace.ensures.ok c.in_ok-write_record.ensures.ok
