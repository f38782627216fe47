use Rattle.sl_area.specs.AreaSizes.{layout_of}
use Rattle.sl_disks.proofs.FirstRecords.{in_resource_first}
use Rattle.sl_disks.proofs.initial.initial_record.Goals as goal
use Rattle.sl_disks.specs.Initial.{line_at, resource_at}
use Rattle.sl_run.specs.Worlds.{initial_of_resource}
use Rattle.std.proofs.Common.{None, Some, ap, rules, sym, ◌-◌, ◌/◌, ◌∙◌, ◌≡◌}
use Rattle.std.specs.Option.{option_copied}

pub returns-in-Some-resource_at : goal.returns-in-Some-resource_at
returns-in-Some-resource_at c =
    let h = c.args.header.now in
    let line = c.in-Some-resource_at.line.now in
    let none : line_at h c.args.path c.args.offset ≡ None = sym c.lockspace_at.ensures ∙ ap option_copied c.in-None.is in
    let some : resource_at h c.args.path c.args.offset ≡ Some line = sym c.resource_at.ensures ∙ ap option_copied c.in-Some-resource_at.is in
    let number : c.saturating_sub-in-Some-resource_at.result / c.from-sector.result ≡ (c.args.offset - line.offset) / h.geometry.sector = search rules in
    in_resource_first h c.args.path c.args.offset line c.in_resource.result none some
    (c.in_resource.ensures ∙ ap (initial_of_resource (layout_of h.geometry) line) number)
