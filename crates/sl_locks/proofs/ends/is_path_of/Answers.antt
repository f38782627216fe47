use Rattle.sl_locks.proofs.EndLaws.{no_name, whole_path}
use Rattle.sl_locks.proofs.ends.is_path_of.Goals as goal
use Rattle.sl_locks.specs.Ends.{behind}
use Rattle.sl_run.specs.LockNames.{doubled}
use Rattle.std.proofs.Common.{ap, sym, ◌∙◌}
use Rattle.std.specs.Prelude.{bytes_eq}

pub returns-in-None-behind_name : goal.returns-in-None-behind_name
returns-in-None-behind_name c =
    no_name c.args.group.now c.args.path.now c.in-Some.rest.now c.in-Some.ensures
    (ap (λ g. behind (doubled g) c.in-Some.rest.now) (sym c.as_slice.ensures) ∙ c.in-None-behind_name.ensures)

pub returns-in-Some-behind_name : goal.returns-in-Some-behind_name
returns-in-Some-behind_name c =
    c.eq.ensures ∙ ap (λ last. bytes_eq c.in-Some-behind_name.rest.now last) c.as_slice-in-Some-behind_name.ensures
    ∙ whole_path c.args.group.now c.args.path.now c.in-Some.rest.now c.in-Some-behind_name.rest.now c.in-Some.ensures
    (ap (λ g. behind (doubled g) c.in-Some.rest.now) (sym c.as_slice.ensures) ∙ c.in-Some-behind_name.ensures)
