use Rattle.sl_command.proofs.LineLaws.{one_read}
use Rattle.sl_command.proofs.words.push_each.Goals as goal
use Rattle.std.proofs.Common.{decimal, ◌∷◌}

pub loop-number-preserved : goal.loop-number-preserved
loop-number-preserved c =
    record {
      written = one_read (λ n. 32 ∷ decimal n) c.args.numbers.now c.loop-number.number-index 0 _ _ _
          c.loop-number-test.true c.loop-number.invariant.written c.in_ok-push_behind.ensures.ok;
      kept = λ front is. c.push_behind.ensures.kept front (c.loop-number.invariant.kept front is);
    }
