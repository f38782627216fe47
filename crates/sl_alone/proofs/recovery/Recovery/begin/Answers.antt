use Rattle.sl_alone.proofs.KeptLaws.{told_begun}
use Rattle.sl_alone.proofs.recovery.Recovery.begin.Goals as goal
use Rattle.std.proofs.Common.{ap, refl, sym, ◌∙◌}

pub returns-clause-ok : goal.returns-clause-ok
returns-clause-ok c grace calls stands = record {
  patience = ap (λ r. r.grace) c.self.view_is ∙ stands.patience;
  beginning = refl;
  told = c.in_ok-self-inside.ensures ∙ told_begun grace calls c.args.now c.args.holders.now (sym stands.beginning ∙ c.requires);
}
