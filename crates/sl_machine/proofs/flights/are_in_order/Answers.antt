use Rattle.sl_machine.proofs.FlightOrder.{order_begins, order_step}
use Rattle.sl_machine.proofs.flights.are_in_order.Goals as goal
use Rattle.sl_machine.specs.Flights.{in_order}
use Rattle.std.proofs.Common.{arith, drop, length, refl, subst, sym, true, ◌-◌, ◌∙◌, ◌≡◌}
use Rattle.std.proofs.lemmas.Option.{slice_get_read}

pub loop-index-init : goal.loop-index-init
loop-index-init c =
    let l = c.args.items.now.ok in
    let n = c.len-index.ensures in
    let e : c.len-index.result ≡ length c.args.items.now.items = omega (arith, l, n) in
    (omega (arith, e), subst (λ k. true ≡ in_order (drop (k - 1) c.args.items.now.items)) (sym e) (order_begins c.args.items.now.items))

pub loop-index-preserved-then-is_older : goal.loop-index-preserved-then-is_older
loop-index-preserved-then-is_older c =
    let fs = c.args.items.now.items in
    let within = c.loop-index.invariant.0 in
    let lt = c.loop-index-test.true in (
      omega (arith, within),
      order_step c.loop-index.index fs c.index.result.now c.index-in-loop-index.result.now c.loop-index.ordered lt
          (slice_get_read fs (length fs) (c.loop-index.index - 1 - 1) c.index.result.now refl (omega (arith, within, lt)) c.index.ensures)
          (slice_get_read fs (length fs) (c.loop-index.index - 1) c.index-in-loop-index.result.now refl (omega (arith, within, lt)) c.index-in-loop-index.ensures)
          (sym c.is_older.ensures ∙ c.if-is_older.true) c.loop-index.invariant.1,
    )
