use Rattle.sl_host_passes.proofs.Moments.{least_next}
use Rattle.sl_host_passes.proofs.quiet_until.before_jobs.Goals as goal
use Rattle.sl_host_passes.specs.NextMoment.{found_moments}
use Rattle.sl_host_work.specs.KilledMembers.{unread}
use Rattle.std.proofs.Common.{◌∙◌}
use Rattle.std.specs.Prelude.{find, ◌==◌}

pub loop-place-preserved : goal.loop-place-preserved
loop-place-preserved c =
    let k = c.args.host.now.kept in
    record {
      comes = c.loop-place.invariant.comes
          ∙ least_next (λ n. found_moments (unread k) (find (λ j. j.number == n) k.jobs)) c.args.numbers.now.items c.loop-place.place c.nth.result.now c.loop-place.next c.before_numbered-next.result c.nth.ensures c.before_numbered-next.ensures;
    }
