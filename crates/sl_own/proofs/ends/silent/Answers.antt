-- One more that counted nothing, at its place.
use Rattle.sl_own.proofs.SettleLaws.{none_more, silent_more}
use Rattle.sl_own.proofs.ends.silent.Goals as goal
use Rattle.std.proofs.Common.{ap, arith}

pub loop-by-preserved : goal.loop-by-preserved
loop-by-preserved g c =
    record {
      counted = silent_more c.loop-by.writers.items c.reserve.new.self.items c.push_reserved.new.self.items _ c.loop-by.by c.reserve.ensures.items c.push_reserved.ensures.items
          c.loop-by.invariant.counted;
      none = none_more c.loop-by.writers.items c.reserve.new.self.items c.push_reserved.new.self.items _ c.reserve.ensures.items c.push_reserved.ensures.items (ap (λ s. s.count) c.new.ensures)
          c.loop-by.invariant.none;
    }

pub returns : goal.returns
returns g c =
    let counted = c.loop-by.invariant.counted in
    let past = c.loop-by-test.false in
    let most = c.loop-by.auto.by-end in (omega (arith, counted, past, most), c.loop-by.invariant.none)
