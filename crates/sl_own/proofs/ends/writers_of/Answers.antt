-- Nobody before, and behind them these two.
use Rattle.sl_own.proofs.SettleLaws.{two_pushed}
use Rattle.sl_own.proofs.ends.writers_of.Goals as goal

pub returns : goal.returns
returns g c = (
  c.in_ok-writers.writers.items,
  c.in_ok-writers.ensures.0,
  c.in_ok-writers.ensures.1,
  two_pushed c.in_ok-writers.writers.items c.reserve.new.self.items c.push_reserved.new.self.items c.push_reserved-2.new.self.items _ _ c.reserve.ensures.items c.push_reserved.ensures.items
      c.push_reserved-2.ensures.items,
)
