use Rattle.sl_cli.proofs.TimedLaws.{label_is}
use Rattle.sl_cli.proofs.timed_words.label_of.Goals as goal
use Rattle.std.proofs.Common.{None, Some, sym, ◌∙◌}

pub returns-in_err-times-in-InitLockspace-clause-exact : goal.returns-in_err-times-in-InitLockspace-clause-exact
returns-in_err-times-in-InitLockspace-clause-exact c =
    c.from_residual.ensures
    ∙ label_is c.args.times.now c.in-InitLockspace.lockspace c.in-InitLockspace.geometry c.args.action None c.in-InitLockspace.is
    (sym c.in_err-times-in-InitLockspace.was ∙ c.times_of.ensures.exact)

pub returns-in_ok-times-in-InitLockspace-clause-exact : goal.returns-in_ok-times-in-InitLockspace-clause-exact
returns-in_ok-times-in-InitLockspace-clause-exact c =
    label_is c.args.times.now c.in-InitLockspace.lockspace c.in-InitLockspace.geometry c.args.action (Some c.in_ok-times-in-InitLockspace.times) c.in-InitLockspace.is
    (sym c.in_ok-times-in-InitLockspace.was ∙ c.times_of.ensures.exact)
