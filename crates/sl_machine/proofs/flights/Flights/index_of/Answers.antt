use Rattle.sl_machine.proofs.FlightLaws.{down_to, narrow_none, up_from}
use Rattle.sl_machine.proofs.flights.Flights.index_of.Goals as goal
use Rattle.std.proofs.Common.{refl}

pub loop-low-preserved-then-found-number-2 : goal.loop-low-preserved-then-found-number-2
loop-low-preserved-then-found-number-2 c =
    up_from _ _ c.loop-low.low c.loop-low.high _ _ _ _ refl c.args.self.now.kept.fall c.loop-low.invariant c.loop-low-test.true
    c.index.ensures c.number-found.ensures c.if-found-number-2.true

pub loop-low-preserved : goal.loop-low-preserved
loop-low-preserved c =
    down_to _ _ c.loop-low.low c.loop-low.high _ _ _ _ refl c.args.self.now.kept.fall c.loop-low.invariant c.loop-low-test.true
    c.index.ensures c.number-found.ensures c.if-found-number-2.false c.if-found-number.false

pub returns-clause-none : goal.returns-clause-none
returns-clause-none c = λ _. narrow_none _ c.loop-low.low c.loop-low.high _ c.loop-low.invariant c.loop-low-test.false
