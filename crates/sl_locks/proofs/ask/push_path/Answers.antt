use Rattle.sl_locks.proofs.AskTexts.{three}
use Rattle.sl_locks.proofs.ask.push_path.Goals as goal
use Rattle.sl_run.specs.LockNames.{doubled}
use Rattle.std.proofs.Common.{ap, codes, ◌++◌, ◌∙◌}

pub returns : goal.returns
returns c =
    three c.args.out.now.items _ _ _ (codes "/dev/mapper/") (doubled c.args.group.now) (codes "-lvmlock") c.in_ok-push_text.ensures
    (c.in_ok-push_name.ensures ∙ ap (λ name. c.push_text.new.out.items ++ doubled name) c.as_slice.ensures) c.in_ok-push_text-2.ensures
