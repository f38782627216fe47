use Rattle.sl_lease.proofs.KnownLaws.{again_asks_nothing, again_is_read}
use Rattle.sl_lease.proofs.next.after_first.Goals as goal
use Rattle.sl_trace.specs.declared.effects.LeaseStep.TheVariants.{ReadAgain}
use Rattle.sl_trace.specs.declared.lease.LeaseNext.TheVariants.{ReadFor}
use Rattle.sl_words.proofs.CaseLaws.{none_some, some_value}
use Rattle.std.proofs.Common.{ap, sym, ◌∙◌}

pub returns-in-Some-clause-decides : goal.returns-in-Some-clause-decides
returns-in-Some-clause-decides c =
    λ p k aim call n bytes read again.
    ap (λ r. ReadFor (ReadAgain r)) (some_value c.in-Some.read read (sym c.in-Some.is ∙ c.read_of_step.ensures ∙ again_is_read p.layout bytes c.args.step read again))
    ∙ sym (again_asks_nothing p k aim call n bytes c.args.step read again)

pub returns-in-None-clause-decides : goal.returns-in-None-clause-decides
returns-in-None-clause-decides c =
    λ p k aim call n bytes read again. absurd (none_some read (sym c.in-None.is ∙ c.read_of_step.ensures ∙ again_is_read p.layout bytes c.args.step read again))
