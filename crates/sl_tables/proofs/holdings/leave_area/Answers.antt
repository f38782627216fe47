use Rattle.indexmap.specs.IndexMap.{get}
use Rattle.sl_tables.proofs.HoldingsStand.{led_by}
use Rattle.sl_tables.proofs.holdings.leave_area.Goals as goal
use Rattle.sl_tables.specs.Holdings.{fits, is_held_at}
use Rattle.sl_tables.specs.declared.holdings.Sought.{Sought}
use Rattle.sl_trace.specs.Traces.{same_spot}
use Rattle.sl_words.specs.Words.{some_is}
use Rattle.std.proofs.Common.{ap, subst, sym, true, ◌==◌, ◌≡◌, ◌≤◌, ◌∙◌}
use Rattle.std.specs.List.{AllByRecursion}

pub seek-requires : goal.seek-requires
seek-requires c =
    subst (λ (s : Sought). AllByRecursion (λ p. fits s p.1 ≡ true → c.args.number ≤ p.0) c.args.held.now.items) (sym c.at.ensures)
    (led_by (λ p. is_held_at c.args.spot.now p.1) (λ p. is_held_at c.args.spot.now p.1) c.args.number (get same_spot c.args.areas.now c.args.spot.now) c.args.held.now.items (λ p on. on)
    (sym (c.if-is_first.ensures ∙ ap (λ s. some_is (λ n. n == c.args.number) (get same_spot c.args.areas.now s)) c.at-key.ensures)) c.requires.led)
