-- One clock more, and what it read.
use Rattle.sl_live_run.proofs.HeaderLaws.{readings_pushed}
use Rattle.sl_live_run.proofs.clocks.start_clocks.Goals as goal
use Rattle.std.proofs.Common.{arith, rules, ◌+◌}

pub loop-before-preserved : goal.loop-before-preserved
loop-before-preserved g c =
    record {
      readings = readings_pushed g.V.Clock.Clock.last 1 c.loop-before.clocks.items c.push_back.new.self.items c.read_once-reading.new.clock c.loop-before.readings.items c.push.new.self.items
          (c.loop-before.before + 1) c.read_once-reading.result c.loop-before.invariant.readings c.in_ok-push.ensures.items c.in_ok-push_back.ensures.items (omega arith) c.read_once-reading.ensures;
      each = search rules;
      lendings = search rules;
      count = search rules;
    }
