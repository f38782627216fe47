use Rattle.sl_area.specs.MemArea.{AreaState}
use Rattle.sl_outside.proofs.MemDiskLaws.{none_found, nothing_put, one_found, path_found, put_there}
use Rattle.sl_outside.proofs.mem_devices.exchange.Goals as goal
use Rattle.sl_outside.specs.Disks.{TakesBack, told_at}
use Rattle.sl_outside.specs.MemDisks.{content_at}
use Rattle.std.proofs.Common.{Some, ap, slice_index_or, slice_set, subst, sym, ◌∙◌}
use Rattle.std.specs.Prelude.{option_map}

pub returns-in_err-at-clause-taken : goal.returns-in_err-at-clause-taken
returns-in_err-at-clause-taken c =
    ap (λ x. option_map (λ t. t.1.content) x) c.from_residual.ensures ∙ sym (none_found c.args.path.now c.args.disks.now (sym c.in_err-at.ensures))

pub returns-in_err-at-clause-put : goal.returns-in_err-at-clause-put
returns-in_err-at-clause-put c = nothing_put c.args.path.now c.args.disks.now _ (sym c.in_err-at.ensures)

pub returns-clause-taken : goal.returns-clause-taken
returns-clause-taken c =
    ap (λ (a : AreaState). Some a.content) c.replace.ensures.value
    ∙ sym (one_found c.args.path.now c.args.disks.now c.in_ok-at.at c.index-disks-at.result (sym c.in_ok-at.ensures))

pub returns-clause-path : goal.returns-clause-path
returns-clause-path c = path_found c.args.path.now c.args.disks.now c.in_ok-at.at c.index-disks-at.result (sym c.in_ok-at.ensures)

pub returns-clause-put : goal.returns-clause-put
returns-clause-put c =
    let found = sym c.in_ok-at.ensures in
    let path = (slice_index_or c.args.disks.now c.in_ok-at.at c.index-disks-at.result).path in
    subst
    (λ (x : AreaState).
    TakesBack (told_at (content_at c.args.disks.now) c.args.path.now) (content_at c.args.disks.now)
    (content_at (slice_set c.args.disks.now c.in_ok-at.at (record { path = path; area = c.replace.new.dest }))) (Some x.content))
    c.replace.ensures.after
    (put_there c.args.path.now c.args.disks.now c.in_ok-at.at c.index-disks-at.result (record { path = path; area = c.replace.new.dest }) found
    (path_found c.args.path.now c.args.disks.now c.in_ok-at.at c.index-disks-at.result found))
