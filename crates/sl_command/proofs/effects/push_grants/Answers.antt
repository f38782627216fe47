use Rattle.sl_command.proofs.LineLaws.{one_more}
use Rattle.sl_command.proofs.effects.push_grants.Goals as goal
use Rattle.sl_command.specs.OutputLines.{line_text}
use Rattle.sl_trace.specs.EffectTexts.{grant_words}

pub loop-grant-preserved : goal.loop-grant-preserved
loop-grant-preserved c =
    record {
      written = one_more (λ x. line_text c.args.machine (grant_words x)) c.args.grants.now c.loop-grant.grant-index c.grant-item.result _ _ _
          c.loop-grant-test.true c.grant-item.is c.loop-grant.invariant.written c.in_ok-push_grant.ensures.ok;
      kept = λ front is. c.push_grant.ensures.kept front (c.loop-grant.invariant.kept front is);
    }
