-- The records are apart, so each stands.
use Rattle.sl_area.specs.AreaSizes.{layout_of}
use Rattle.sl_direct.proofs.ActLaws.{writes_broke, writes_done}
use Rattle.sl_direct.proofs.FreshLaws.{labelled_apart}
use Rattle.sl_direct.proofs.labelled.init_labelled.Goals as goal
use Rattle.sl_direct.specs.Actions.{label_for}
use Rattle.sl_direct.specs.FreshAreas.{labelled_writes}
use Rattle.sl_direct.specs.Lines.{labelled_line}
use Rattle.sl_label.specs.Labels.{label_record}
use Rattle.sl_sector.specs.Records.{IsRecord}
use Rattle.sl_sector.specs.declared.sector.Rec.{Rec}
use Rattle.std.proofs.Common.{subst}

pub returns-in-Ok-write_labelled-clause-acted : goal.returns-in-Ok-write_labelled-clause-acted
returns-in-Ok-write_labelled-clause-acted g c =
    let l = c.args.lockspace.now in
    let label = label_for l c.args.geometry c.args.timing c.args.grace in
    writes_done (labelled_writes (layout_of c.args.geometry) label l.offset) (labelled_line l c.args.geometry.hosts c.args.timing c.args.grace) _ _ _ _
    (labelled_apart c.args.geometry label l.offset c.requires.action.0 c.requires.action.1
    (subst (λ (r : Rec). IsRecord r) c.in-Ok.ensures.exact c.in-Ok.ensures.rules)) c.in-Ok-write_labelled.ensures.ok c.requires.first c.in-Ok-push_labelled_line.ensures.ok

pub returns-in-Err-write_labelled-clause-acted : goal.returns-in-Err-write_labelled-clause-acted
returns-in-Err-write_labelled-clause-acted g c =
    let l = c.args.lockspace.now in
    let label = label_for l c.args.geometry c.args.timing c.args.grace in
    writes_broke (labelled_writes (layout_of c.args.geometry) label l.offset) (labelled_line l c.args.geometry.hosts c.args.timing c.args.grace) _ _ _
    (labelled_apart c.args.geometry label l.offset c.requires.action.0 c.requires.action.1
    (subst (λ (r : Rec). IsRecord r) c.in-Ok.ensures.exact c.in-Ok.ensures.rules)) c.in-Err-write_labelled.ensures.failed c.clear.ensures.items
