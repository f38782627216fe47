use Rattle.sl_outside.proofs.MemDiskLaws.{none_found, one_found}
use Rattle.sl_outside.proofs.mem_devices.content_of.Goals as goal
use Rattle.std.proofs.Common.{Some, ap, sym, ◌∙◌}
use Rattle.std.specs.Prelude.{option_map}

pub returns-in_err-at : goal.returns-in_err-at
returns-in_err-at c = ap (λ x. option_map (λ b. b.now) x) c.from_residual.ensures ∙ sym (none_found c.args.path.now c.args.disks.now (sym c.in_err-at.ensures))

pub returns : goal.returns
returns c =
    ap (λ x. Some x) c.content.ensures ∙ sym (one_found c.args.path.now c.args.disks.now c.in_ok-at.at c.index-disks-at.result (sym c.in_ok-at.ensures))
