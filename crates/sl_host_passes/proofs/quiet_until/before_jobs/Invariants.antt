use Rattle.sl_host_passes.proofs.quiet_until.before_jobs.Given as goal
use Rattle.sl_host_passes.specs.NextMoment.{found_moments, least_by}
use Rattle.sl_host_work.specs.KilledMembers.{unread}
use Rattle.std.proofs.Common.{drop, find, flat_map, ◌==◌, ◌≡◌}

-- the jobs from this place on are still to come
abbrev pub invariant-loop-place : goal.invariant-loop-place
invariant-loop-place l = record {
  comes : least_by l.fn.first (flat_map (λ n. found_moments (unread l.fn.host.kept) (find (λ j. j.number == n) l.fn.host.kept.jobs)) l.fn.numbers.items)
      ≡ least_by l.next (flat_map (λ n. found_moments (unread l.fn.host.kept) (find (λ j. j.number == n) l.fn.host.kept.jobs)) (drop l.place l.fn.numbers.items));
}
