use Rattle.sl_live_machine.proofs.RunLaws.{are_gathered}
use Rattle.sl_live_machine.proofs.threads.gather.Goals as goal
use Rattle.sl_live_machine.specs.ServedDisks.{AreGathered}
use Rattle.std.proofs.Common.{rules, subst}

pub returns : goal.returns
returns g c =
    let first = c.in_ok-ticks in
    let second = c.in_ok-exits in
    let a = c.args in
    subst (AreGathered g.J.Station.setting a.delta a.resource a.starts) (search rules)
    (are_gathered g.J.Station.setting a.ticks a.delta a.resource a.exits a.starts a.tests a.lines first.ticks first.delta first.resource second.exits second.starts second.tests
    c.in_ok-lines.lines first.ensures.first first.ensures.second first.ensures.third second.ensures.first second.ensures.second second.ensures.third (search rules)
    (record {
      wakes = c.requires.ticks;
      delta_works = c.requires.delta;
      resource_works = c.requires.resource;
      tells_exits = c.requires.exits;
      tells_starts = c.requires.starts;
      tests_devices = c.requires.tests;
      gives_lines = c.requires.lines;
    }))
