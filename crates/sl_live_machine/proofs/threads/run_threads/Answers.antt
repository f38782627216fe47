use Rattle.sl_live_machine.proofs.RunLaws.{threads_serving}
use Rattle.sl_live_machine.proofs.threads.run_threads.Goals as goal
use Rattle.std.proofs.Common.{ap, rules}

-- what the closures send and share are the function's own parameters
pub join-delta-requires-after_bounds : goal.join-delta-requires-after_bounds
join-delta-requires-after_bounds g c κs within = (
  (search rules, (search rules, (search rules, (search rules, (search rules, (search rules, (search rules, (search rules, (search rules, search rules, search rules, search rules, search rules, search rules, search rules, search rules))))))))),
  (search rules, (search rules, (search rules, (search rules, (search rules, (search rules, (search rules, (search rules, search rules, search rules, search rules, search rules, search rules, search rules)))))))),
)

pub returns : goal.returns
returns g c =
    let left = c.gather_threads.result in
    let worked = c.join-delta.result.0 in
    let started = c.join-delta.result.1.starts in
    threads_serving g.A.Area.content g.A.Area.faults g.P.Spawner.acts c.args.room.now.geometry.sector g.J.Station.setting left.seats (λ v. v.items) worked.0.seat worked.1.seat started.seat
    c.args.delta.items worked.0.disks.items left.delta.items c.args.resource.items worked.1.disks.items left.resource.items c.args.starter.spawner started.starter left.starter
    (ap (λ d. d.items) c.gather_threads.ensures.delta_disks) (ap (λ d. d.items) c.gather_threads.ensures.resource_disks) c.gather_threads.ensures.starter
    (search (rules, c.join-delta.ensures.first)) (search (rules, c.join-delta.ensures.first)) (search (rules, c.join-delta.ensures.second)) c.gather_threads.ensures.seats
