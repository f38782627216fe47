-- The text is a name.
use Rattle.sl_generate.proofs.NameLaws.{daemon_named, unnamed}
use Rattle.sl_generate.proofs.candidates.daemon_name.Goals as goal
use Rattle.sl_report.specs.GeneratedSchedules.{gen_host_name}
use Rattle.sl_text.specs.Names.{is_name}
use Rattle.std.proofs.Common.{append_assoc, arith, subst, sym, true, ◌++◌, ◌∙◌, ◌≡◌}
use Rattle.std.specs.Prelude.{codes, decimal}

pub unreachable-requires : goal.unreachable-requires
unreachable-requires c =
    let few = c.requires in
    let fits = c.ranges.number.fits in
    let same : c.as_bytes.result.now ≡ gen_host_name c.args.machine ++ codes "_" ++ decimal c.args.number =
    c.as_bytes.ensures.value ∙ c.in_ok-text.ensures.ok ∙ sym (append_assoc (gen_host_name c.args.machine) (codes "_") (decimal c.args.number)) in
    let named : is_name c.as_bytes.result.now ≡ true = subst (λ w. is_name w ≡ true) (sym same) (daemon_named c.args.machine c.args.number few (omega (arith, fits))) in
    unnamed c.as_bytes.result.now c.new.result named c.new.ensures.exact c.in-None.is
