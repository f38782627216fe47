use Rattle.sl_tables.proofs.HoldingsStand.{all_ended, fewer, left_is, rest_stays}
use Rattle.sl_tables.proofs.holdings.Holdings.end_all.Goals as goal
use Rattle.sl_tables.specs.Holdings.{fits}
use Rattle.std.proofs.Common.{ap, filter, is_some, not, sym, ◌∙◌}

pub loop-smaller : goal.loop-smaller
loop-smaller c =
    fewer (fits c.args.sought.now) c.loop.self.held c.end_first.new.self.held (sym (ap is_some c.end_first.ensures.ended) ∙ (sym c.is_some.ensures ∙ c.loop-test.true)) (ap (λ s. s.held) c.end_first.ensures.held)

pub loop-preserved : goal.loop-preserved
loop-preserved c =
    let t = fits c.args.sought.now in
    record {
      rest = ap (λ s. filter (λ g. not (t g)) s.held) c.end_first.ensures.held ∙ (rest_stays t c.loop.self.held ∙ c.loop.invariant.rest);
      next = ap (λ s. s.next) c.end_first.ensures.held ∙ c.loop.invariant.next;
      room = ap (λ s. s.room) c.end_first.ensures.held ∙ c.loop.invariant.room;
    }

pub returns : goal.returns
returns c =
    let t = fits c.args.sought.now in
    left_is c.end_first.new.self.held (filter (λ g. not (t g)) c.args.self.now.held) c.end_first.new.self.next c.end_first.new.self.room c.args.self.now
    (all_ended t c.args.self.now.held c.loop.self.held c.end_first.new.self.held (sym (ap is_some c.end_first.ensures.ended) ∙ (sym c.is_some.ensures ∙ c.loop-test.false)) (ap (λ s. s.held) c.end_first.ensures.held) c.loop.invariant.rest)
    (ap (λ s. s.next) c.end_first.ensures.held ∙ c.loop.invariant.next) (ap (λ s. s.room) c.end_first.ensures.held ∙ c.loop.invariant.room)
